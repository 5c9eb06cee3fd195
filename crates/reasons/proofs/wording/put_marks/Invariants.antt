use Rattle.std.proofs.Common.{◌≡◌, ◌++◌, take, string_bytes}
use Rattle.reasons.specs.Wording.{marks_text}
use Rattle.reasons.proofs.wording.put_marks.Given as goal

abbrev pub invariant-loop-is_written : goal.invariant-loop-is_written
invariant-loop-is_written l = string_bytes l.out ≡ string_bytes l.fn.out ++ marks_text (take l.is_written-index l.set)
