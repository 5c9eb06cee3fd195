-- The runs of a worker that has ended, held against what was put into its queue.
use Rattle.std.proofs.Common.{◌≡◌, ℕ, List, [], ◌∷◌, ◌++◌, refl, sym, ap, ◌∙◌, subst, arith}
use Rattle.wire.specs.declared.records.Sent.{Sent}
use Rattle.wire.specs.declared.records.Capture.{Capture}
use Rattle.rx_queues.specs.declared.job.Job.{Job}
use Rattle.rx_queues.specs.declared.job.Job.TheVariants.{End}
use Rattle.rx_queues.specs.declared.passes.Queues.{Queues}
use Rattle.rx_queues.specs.Fifo.{IsTakenInOrder}
use Rattle.actors.specs.declared.worker.Lane.{Lane}
use Rattle.actors.specs.declared.runner.RunEnd.{RunEnd}
use Rattle.actors.specs.declared.runner.Ran.{Ran}
use Rattle.replay.specs.Crews.{IsLane}
use Rattle.actors.specs.RunJobs.{jobs_of, records_of}
use Rattle.actors.specs.Puts.{frame_jobs}
use Rattle.actors.specs.RunsInOrder.{IsRunAt, HasWorked, HasHandled}

-- the end mark closes what was put and what was taken at the same place
same_end : (numbers : List ℕ) (runs : List Ran) (left : List Job) → frame_jobs numbers ++ End ∷ [] ≡ (jobs_of runs ++ End ∷ []) ++ left
    → records_of runs ≡ numbers
same_end [] [] left e = refl
same_end [] (ran ∷ later) left e = absurd (cc)
same_end (number ∷ numbers) [] left e = absurd (cc)
same_end (number ∷ numbers) (ran ∷ later) left e = grind (arith, same_end numbers later left)

pub held_against : {S : Type 0} (IsNew : S → Type 0) (IsRun : S → Ran → S → Type 0) (taken put : List Job) (numbers : List ℕ) (runs : List Ran) (after : S)
    → HasWorked IsNew IsRun taken runs after → IsTakenInOrder taken put → put ≡ frame_jobs numbers ++ End ∷ []
    → HasHandled IsNew IsRun numbers runs after
held_against IsNew IsRun taken put numbers runs after worked order is = record {
  records_are = same_end numbers runs order.left (sym is ∙ order.rest ∙ ap (λ jobs. jobs ++ order.left) worked.jobs);
  before = worked.before;
  is_new = worked.is_new;
  chain = worked.chain;
}

-- what a worker's thread gives is about the runner and the capture that it was given
pub worked_there : {S W : Type 0} (is_new : W → ℕ → S → Type 0) (runs : W → ℕ → Sent → S → RunEnd → S → Type 0) (queues : Queues) (capture : Capture)
    (runner : W) (worker : ℕ) (lane : Lane S W) → IsLane queues capture runner worker lane → (taken : List Job) (list : List Ran) (after : S)
    → HasWorked (is_new lane.runner.now lane.worker) (IsRunAt (runs lane.runner.now lane.worker) lane.capture.now.records.items) taken list after
    → HasWorked (is_new runner worker) (IsRunAt (runs runner worker) capture.records.items) taken list after
worked_there {S} {W} is_new runs queues capture runner worker lane is taken list after worked =
    subst (λ (y : W × ℕ × Capture). HasWorked (is_new y.0 y.1) (IsRunAt (runs y.0 y.1) y.2.records.items) taken list after)
    (λ i. (is.runner_is i, is.worker_is i, is.capture_is i)) worked
