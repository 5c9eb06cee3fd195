use Rattle.std.proofs.Common.{◌≡◌}
use Rattle.bench_parts.proofs.key_times.fill.Given as goal

abbrev pub invariant-loop-key : goal.invariant-loop-key
invariant-loop-key l = l.shard.size ≡ 16
