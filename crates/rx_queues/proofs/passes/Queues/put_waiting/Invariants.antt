use Rattle.std.proofs.Common.{◌≡◌}
use Rattle.rx_queues.specs.Passes.{jobs_put, IsPutPassOf}
use Rattle.rx_queues.proofs.passes.Queues.put_waiting.Given as goal

abbrev pub invariant-tries : goal.invariant-tries
invariant-tries g l = IsPutPassOf l.self l.pass × (jobs_put l.pass ≡ jobs_put l.initial.pass)
