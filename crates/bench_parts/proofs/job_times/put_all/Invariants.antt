use Rattle.rx_queues.specs.Passes.{IsPutPassOf}
use Rattle.bench_parts.proofs.job_times.put_all.Given as goal

abbrev pub invariant-puts : goal.invariant-puts
invariant-puts g l = IsPutPassOf l.queues l.pass
