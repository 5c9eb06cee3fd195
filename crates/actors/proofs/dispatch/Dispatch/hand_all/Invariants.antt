use Rattle.std.proofs.Common.{◌≤◌, length}
use Rattle.rx_queues.specs.Passes.{IsPutPassOf, jobs_put}
use Rattle.actors.specs.Shares.{frames_of}
use Rattle.actors.specs.Actors.{AreDispatched}
use Rattle.actors.proofs.dispatch.Dispatch.hand_all.Given as goal

abbrev pub invariant-records : goal.invariant-records
invariant-records g l = IsPutPassOf l.self.queues.now l.put × (l.next ≤ length l.self.starts.now)
    × AreDispatched (frames_of l.self.capture.now.records.items) l.self.starts.now l.self.workers l.number l.self.first l.next (jobs_put l.put)
