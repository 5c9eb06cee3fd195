use Rattle.std.proofs.Common.{◌≡◌, ◌++◌, take, string_bytes}
use Rattle.reasons.specs.Annotations.{indexed_text, register_item}
use Rattle.reasons.proofs.annotated.put_register_items.Given as goal

abbrev pub invariant-loop-number : goal.invariant-loop-number
invariant-loop-number l = string_bytes l.out ≡ string_bytes l.fn.out ++ indexed_text register_item 0 (take l.number l.kinds)
