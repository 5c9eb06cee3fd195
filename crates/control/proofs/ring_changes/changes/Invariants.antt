use Rattle.std.proofs.Common.{◌≡◌}
use Rattle.control.specs.RingChanges.{changes_below}
use Rattle.control.proofs.ring_changes.changes.Given as goal

abbrev pub invariant-places : goal.invariant-places
invariant-places l = l.slots.items ≡ changes_below l.old l.new l.place
