use Rattle.bench_parts.specs.AtWork.{IsAtWork}
use Rattle.bench_parts.proofs.shard_times.fill.Given as goal

abbrev pub invariant-keys : goal.invariant-keys
invariant-keys l = IsAtWork l.shard
