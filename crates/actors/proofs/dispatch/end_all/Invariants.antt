use Rattle.rx_queues.specs.Passes.{IsPutPassOf, jobs_put}
use Rattle.actors.proofs.shared.PutLemmas.{AreEndedUpTo}
use Rattle.actors.proofs.dispatch.end_all.Given as goal

abbrev pub invariant-workers : goal.invariant-workers
invariant-workers g l = IsPutPassOf l.queues l.put × AreEndedUpTo l.worker (jobs_put l.initial.put) (jobs_put l.put)
