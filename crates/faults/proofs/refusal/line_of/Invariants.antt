use Rattle.std.proofs.Common.{◌≡◌, take}
use Rattle.faults.specs.Refusals.{one_line}
use Rattle.faults.proofs.refusal.line_of.Given as goal

abbrev pub invariant-text : goal.invariant-text
invariant-text l = l.line.items ≡ one_line (take l.byte-index l.text)
