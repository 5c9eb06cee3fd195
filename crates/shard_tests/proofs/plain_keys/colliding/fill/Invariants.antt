use Rattle.std.proofs.Common.{◌≡◌}
use Rattle.shard_tests.proofs.plain_keys.colliding.fill.Given as goal

abbrev pub invariant-loop-i : goal.invariant-loop-i
invariant-loop-i l = l.shard.size ≡ 16
