use Rattle.std.proofs.Common.{◌≤◌, ◌+◌, length}
use Rattle.rx_queues.specs.Passes.{IsPutPassOf, TakeAtTheirPlaces, workers_of}
use Rattle.replay_tests.proofs.receive_queues.a_thousand_jobs_go_through_each_queue.Given as goal

abbrev pub invariant-queues : goal.invariant-queues
invariant-queues g l = IsPutPassOf l.queues l.put × TakeAtTheirPlaces l.queues l.takes.items × (length l.takes.items ≤ workers_of l.queues + 2)

abbrev pub decreases-queues : goal.decreases-queues
decreases-queues g l = length l.takes.items
