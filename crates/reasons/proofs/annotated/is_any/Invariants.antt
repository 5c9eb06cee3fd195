use Rattle.std.proofs.Common.{◌≡◌, drop}
use Rattle.reasons.specs.Annotations.{is_any}
use Rattle.reasons.proofs.annotated.is_any.Given as goal

abbrev pub invariant-loop-is_written : goal.invariant-loop-is_written
invariant-loop-is_written l = is_any l.fn.set ≡ is_any (drop l.is_written-index l.set)
