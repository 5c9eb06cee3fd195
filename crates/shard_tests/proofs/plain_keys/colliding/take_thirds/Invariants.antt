use Rattle.std.proofs.Common.{◌≡◌}
use Rattle.shard_tests.proofs.plain_keys.colliding.take_thirds.Given as goal

abbrev pub invariant-loop-number : goal.invariant-loop-number
invariant-loop-number l = l.shard.size ≡ 16
