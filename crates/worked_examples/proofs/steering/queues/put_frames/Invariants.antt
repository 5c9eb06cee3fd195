use Rattle.rx_queues.specs.Passes.{IsPutPassOf}
use Rattle.worked_examples.proofs.steering.queues.put_frames.Given as goal

abbrev pub invariant-puts : goal.invariant-puts
invariant-puts g l = IsPutPassOf l.queues l.pass
