use Rattle.bench_parts.specs.Measured.{IsPassAtWork}
use Rattle.bench_parts.proofs.thread_times.shared_calls.work.Given as goal

abbrev pub invariant-keys : goal.invariant-keys
invariant-keys g l = IsPassAtWork g.B.Naming.count g.B.Naming.plan l.pass l.shard
