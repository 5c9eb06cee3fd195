use Rattle.std.proofs.Common.{◌≡◌, take}
use Rattle.faults.specs.Refusals.{place_after}
use Rattle.faults.specs.declared.refusal.Place.TheVariants.{LineStart}
use Rattle.faults.proofs.refusal.are_indented.Given as goal

abbrev pub invariant-notes : goal.invariant-notes
invariant-notes l = l.place ≡ place_after LineStart (take l.byte-index l.notes)
