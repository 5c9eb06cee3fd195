-- What is known of the worker at each place of a list.
use Rattle.std.specs.Prelude.{◌≡◌, ℕ, List, length}
use mathlib.Core.Option.{some}
use lib.ListN.{get_elem?}
use Rattle.semantics.specs.Each.{Each}
use Rattle.wire.specs.declared.records.Sent.{Sent}
use Rattle.wire.specs.declared.records.Capture.{Capture}
use Rattle.rx_queues.specs.declared.passes.Queues.{Queues}
use Rattle.replay.specs.declared.crew.Handled.{Handled}
use Rattle.actors.specs.declared.worker.Lane.{Lane}
use Rattle.actors.specs.declared.runner.RunEnd.{RunEnd}
use Rattle.actors.specs.declared.runner.Ran.{Ran}
use Rattle.actors.specs.Accounts.{runs_at}
use Rattle.actors.specs.RunsInOrder.{IsRunAt, HasHandled}
use Rattle.actors.specs.Shares.{frames_of, share}

-- a worker's state that may go to its thread
pub record IsReadyAt {S : Type 0} (IsNew IsIdle : ℕ → S → Type 0) (worker : ℕ) (state : S) : Type 0 where
  pub is_new : IsNew worker state
  pub is_idle : IsIdle worker state

-- the thread of the worker of this number
pub record IsLane {S W : Type 0} (queues : Queues) (capture : Capture) (runner : W) (worker : ℕ) (lane : Lane S W) : Type 0 where
  pub queues_are : lane.queues.now ≡ queues
  pub capture_is : lane.capture.now ≡ capture
  pub runner_is : lane.runner.now ≡ runner
  pub worker_is : lane.worker ≡ worker

-- the worker of this number ran its records, in order
abbrev pub IsHandled : {S : Type 0} → (ℕ → S → Type 0) → (ℕ → Sent → S → RunEnd → S → Type 0) → List Sent → ℕ → ℕ → Handled S → Type 0
IsHandled IsNew IsRun records workers worker handled =
    HasHandled (IsNew worker) (IsRunAt (IsRun worker) records) (share (frames_of records) workers worker (length records))
    handled.runs.items handled.state

-- each worker ran its records, in order
abbrev pub AreHandled : {S : Type 0} → (ℕ → S → Type 0) → (ℕ → Sent → S → RunEnd → S → Type 0) → List Sent → ℕ → List (Handled S) → Type 0
AreHandled IsNew IsRun records workers all = Each (IsHandled IsNew IsRun records workers) 0 all

-- what the worker of this number made, and its state, each at its place
pub record IsPart {S : Type 0} (lists : List (List Ran)) (states : List S) (worker : ℕ) (handled : Handled S) : Type 0 where
  pub runs : runs_at lists worker ≡ handled.runs.items
  pub state : get_elem? states worker ≡ some handled.state
