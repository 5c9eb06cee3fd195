use Rattle.rx_queues.specs.Passes.{IsPutPassOf, jobs_put}
use Rattle.actors.specs.Puts.{ArePutWithEnd}
use Rattle.replay.proofs.crew.abandon.Given as goal

abbrev pub invariant-lanes : goal.invariant-lanes
invariant-lanes g l = IsPutPassOf l.queues l.put × ArePutWithEnd l.fn.workers (jobs_put l.fn.put) (jobs_put l.put)
    × (goal.iterator-lanes g).can_next l.lane-iterator × (goal.iterator-lanes g).is_finite l.lane-iterator
