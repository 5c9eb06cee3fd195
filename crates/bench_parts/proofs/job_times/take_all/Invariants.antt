use Rattle.rx_queues.specs.Passes.{IsTakePassOf}
use Rattle.bench_parts.proofs.job_times.take_all.Given as goal

abbrev pub invariant-takes : goal.invariant-takes
invariant-takes g l = IsTakePassOf l.queues l.pass
