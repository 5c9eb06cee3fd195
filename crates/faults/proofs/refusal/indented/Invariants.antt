use Rattle.std.proofs.Common.{◌≡◌, ◌++◌, drop, true}
use Rattle.faults.specs.Refusals.{indented}
use Rattle.faults.proofs.refusal.indented.Given as goal

abbrev pub invariant-notes : goal.invariant-notes
invariant-notes l = l.lines.items ++ indented l.is_start (drop l.byte-index l.notes) ≡ indented true l.notes
