use Rattle.rx_queues.specs.Passes.{IsTakePassOf}
use Rattle.worked_examples.proofs.steering.queues.take_frames.Given as goal

abbrev pub invariant-takes : goal.invariant-takes
invariant-takes g l = IsTakePassOf l.queues l.pass
