use Rattle.std.proofs.Common.{◌≡◌, take, reverse}
use Rattle.audit.specs.HeldCells.{AreHeld}
use Rattle.audit.proofs.auditing.first_illegal.Given as goal

abbrev pub invariant-places : goal.invariant-places
invariant-places l = record {
  shard_is : l.shard ≡ record { plan = l.fn.plan; journal = take l.place l.journal };
  held_are : AreHeld l.held (reverse (take l.place l.journal));
}
