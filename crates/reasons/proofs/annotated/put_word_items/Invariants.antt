use Rattle.std.proofs.Common.{◌≡◌, ◌++◌, take, string_bytes}
use Rattle.reasons.specs.Annotations.{indexed_text, word_item}
use Rattle.reasons.proofs.annotated.put_word_items.Given as goal

abbrev pub invariant-loop-word : goal.invariant-loop-word
invariant-loop-word l = string_bytes l.out ≡ string_bytes l.fn.out ++ indexed_text word_item 0 (take l.word l.words)
