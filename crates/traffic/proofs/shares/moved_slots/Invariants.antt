use Rattle.std.proofs.Common.{◌≡◌, ◌≤◌}
use Rattle.traffic.specs.Shares.{moved_below}
use Rattle.traffic.proofs.shares.moved_slots.Given as goal

abbrev pub invariant-places : goal.invariant-places
invariant-places l = (l.moved ≡ moved_below l.old l.new l.place) × (l.moved ≤ l.place)
