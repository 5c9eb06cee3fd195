use Rattle.bench_parts.specs.Alone.{IsAlone}
use Rattle.bench_parts.proofs.thread_times.core_calls.work.Given as goal

abbrev pub invariant-keys : goal.invariant-keys
invariant-keys l = IsAlone l.shard
