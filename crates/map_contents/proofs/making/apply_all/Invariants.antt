use Rattle.std.proofs.Common.{◌≡◌, take}
use Rattle.map_contents.proofs.making.apply_all.Given as goal

abbrev pub invariant-places : goal.invariant-places
invariant-places l = l.shard ≡ record { plan = l.fn.shard.plan; journal = take l.place l.entries }
