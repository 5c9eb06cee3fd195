use Rattle.bench_parts.specs.AtWork.{IsAtWork}
use Rattle.bench_parts.proofs.shard_times.passes.Given as goal

abbrev pub invariant-passes : goal.invariant-passes
invariant-passes l = IsAtWork l.shard
