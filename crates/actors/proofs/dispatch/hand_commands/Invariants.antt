use Rattle.rx_queues.specs.Passes.{IsPutPassOf, workers_of, jobs_put}
use Rattle.actors.specs.Actors.{AreHandedOver}
use Rattle.actors.proofs.dispatch.hand_commands.Given as goal

abbrev pub invariant-commands : goal.invariant-commands
invariant-commands g l = IsPutPassOf l.queues l.put × AreHandedOver (workers_of l.queues) l.fn.next l.number (jobs_put l.fn.put) (jobs_put l.put)
