-- The runs of a worker, one after the other.
use Rattle.std.specs.Prelude.{◌≡◌, ℕ, false, List, [], ◌∷◌, ◌++◌, Some, slice_get}
use Rattle.wire.specs.declared.records.Sent.{Sent}
use Rattle.rx_queues.specs.declared.job.Job.{Job}
use Rattle.rx_queues.specs.declared.job.Job.TheVariants.{End}
use Rattle.rx_queues.specs.Passes.{jobs_taken}
use Rattle.actors.specs.declared.runner.RunEnd.{RunEnd}
use Rattle.actors.specs.declared.runner.Ran.{Ran}
use Rattle.actors.specs.declared.worker.WorkerEnded.{WorkerEnded}
use Rattle.actors.specs.RunJobs.{jobs_of, records_of}

-- a run of the frame of the record
pub record IsRunAt {S : Type 0} (IsRun : Sent → S → RunEnd → S → Type 0) (records : List Sent) (before : S) (ran : Ran)
    (after : S) : Type 0 where
  pub sent : Sent
  pub known : slice_get records ran.number ≡ Some sent
  pub run : IsRun sent before ran.end after

-- one run after the other, each from the state that the one before it left
abbrev pub IsChainOfRuns : {S : Type 0} → (S → Ran → S → Type 0) → S → List Ran → S → Type 0
IsChainOfRuns IsRun before [] after = before ≡ after
IsChainOfRuns {S} IsRun before (ran ∷ later) after = (middle : S) × IsRun before ran middle × IsChainOfRuns IsRun middle later after

-- one run more, of this record
pub record IsOneMore {S : Type 0} (IsRun : S → Ran → S → Type 0) (number : ℕ) (before : S) (runs : List Ran) (after : S)
    (now : List Ran) : Type 0
  where
    pub ran : Ran
    pub number_is : ran.number ≡ number
    pub noted : now ≡ runs ++ ran ∷ []
    pub run : IsRun before ran after

-- what was taken are the jobs of the runs, and then the end
pub record HasWorked {S : Type 0} (IsNew : S → Type 0) (IsRun : S → Ran → S → Type 0) (taken : List Job) (runs : List Ran)
    (after : S) : Type 0 where
  pub jobs : taken ≡ jobs_of runs ++ End ∷ []
  pub before : S
  pub is_new : IsNew before
  pub chain : IsChainOfRuns IsRun before runs after

-- a worker that was not refused memory did the jobs that it took
abbrev pub HasDoneItsJobs : {S : Type 0} → (S → Type 0) → (Sent → S → RunEnd → S → Type 0) → List Sent → WorkerEnded S → Type 0
HasDoneItsJobs IsNew IsRun records ended =
    (ended.is_refused ≡ false) → HasWorked IsNew (IsRunAt IsRun records) (jobs_taken ended.take) ended.runs.items ended.state

-- a worker ran these records, in order
pub record HasHandled {S : Type 0} (IsNew : S → Type 0) (IsRun : S → Ran → S → Type 0) (records : List ℕ) (runs : List Ran)
    (after : S) : Type 0
  where
    pub records_are : records_of runs ≡ records
    pub before : S
    pub is_new : IsNew before
    pub chain : IsChainOfRuns IsRun before runs after
