use Rattle.std.proofs.Common.{◌≡◌, false}
use Rattle.rx_queues.specs.Passes.{IsTakePassOf, place_taken_from, jobs_taken}
use Rattle.actors.specs.RunsInOrder.{IsRunAt}
use Rattle.actors.proofs.shared.RunLemmas.{HasRunSoFar}
use Rattle.actors.proofs.worker.work.Given as goal

abbrev pub invariant-jobs : goal.invariant-jobs
invariant-jobs g l = IsTakePassOf l.queues l.take × (place_taken_from l.take ≡ l.worker) × g.W.Runner.is_idle l.runner l.worker l.state
    × ((l.is_refused ≡ false) → HasRunSoFar (g.W.Runner.is_new l.runner l.worker) (IsRunAt (g.W.Runner.runs l.runner l.worker) l.capture.records.items) (jobs_taken l.take) l.runs.items l.state)
