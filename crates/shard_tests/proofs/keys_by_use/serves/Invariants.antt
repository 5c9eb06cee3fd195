use Rattle.std.proofs.Common.{◌≡◌}
use Rattle.shard_tests.proofs.keys_by_use.serves.Given as goal

abbrev pub invariant-loop-name : goal.invariant-loop-name
invariant-loop-name g l = l.shard.size ≡ g.row.N
