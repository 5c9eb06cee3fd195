use Rattle.rx_queues.specs.Passes.{IsPutPassOf}
use Rattle.replay_tests.proofs.receive_queues.put_jobs.Given as goal

abbrev pub invariant-puts : goal.invariant-puts
invariant-puts g l = IsPutPassOf l.queues l.pass
