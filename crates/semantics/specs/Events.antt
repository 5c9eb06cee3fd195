-- What a list of events of the system asks, and what comes of it: the ends of runs and the answers to calls are computed from the events.
-- Lists have the oldest event first.
use Rattle.std.specs.Prelude.{ℕ, ◌==◌, List, [], ◌∷◌, ◌++◌, Option, Some, None, if◌then◌else◌}
use Rattle.semantics.specs.declared.call.Caller.TheVariants.{Controller}
use Rattle.semantics.specs.declared.call.Caller.{Caller}
use Rattle.semantics.specs.declared.call.Call.{Call}
use Rattle.semantics.specs.declared.call.Call.TheVariants.{Enter}
use Rattle.semantics.specs.declared.call.Reply.{Reply}
use Rattle.semantics.specs.declared.plan.ShardPlan.{ShardPlan}
use Rattle.semantics.specs.declared.verdict.Verdict.{Verdict}
use Rattle.semantics.specs.Step.{Step, CallsMap, Exits}
use Rattle.semantics.specs.Semantics.{next_step}
use Rattle.semantics.specs.ShardPlan.{plan_at}
use Rattle.semantics.specs.History.{shard_of_call, journal_is_full}
use Rattle.semantics.specs.System.{Setting, program_of_setting, SystemState, WorkerState, Runs, worker_state, history_of, is_entered, entry_for}
use Rattle.semantics.specs.System.{SystemEvent, BeginsRun, DoesInstruction, CallsShard, Controls, Reclaims, after_event}

-- what a run is begun on: a frame, at a time in nanoseconds, with a worker's number
pub record Input : Type 0 where
  pub frame : List ℕ
  pub now : ℕ
  pub told : ℕ

-- how a run ended
pub data Ending : Type 0 where
  -- with a verdict, the frame as it left it, and a number of instructions
  Exited : (verdict : Verdict) → (frame : List ℕ) → (steps : ℕ) → Ending
  -- at the full journal of a shard
  Stopped : (shard : ℕ) → Ending

-- ---- what events ask

-- what a worker's runs are begun on
abbrev pub begun_by : ℕ → List SystemEvent → List Input
begun_by worker [] = []
begun_by worker (BeginsRun one frame now told ∷ later) =
    if one == worker then record { frame = frame; now = now; told = told } ∷ begun_by worker later else begun_by worker later
begun_by worker (event ∷ later) = begun_by worker later

-- the controller's calls
abbrev pub controlled : List SystemEvent → List Call
controlled [] = []
controlled (Controls call ∷ later) = call ∷ controlled later
controlled (event ∷ later) = controlled later

-- the shards that the reclaimer frees in
abbrev pub reclaimed : List SystemEvent → List ℕ
reclaimed [] = []
reclaimed (Reclaims shard ∷ later) = shard ∷ reclaimed later
reclaimed (event ∷ later) = reclaimed later

-- ---- what comes of them, by the state in which each happens

-- the answer to a call of one that is in no run: none where the journal is full
abbrev pub answer_to : Option ShardPlan → SystemState → Caller → Call → Option Reply
answer_to (Some plan) system who call =
    if journal_is_full plan (history_of system plan.number) call then None else Some (entry_for plan system who call).reply
answer_to None system who call = None

abbrev pub answers_of_event : Setting → SystemState → SystemEvent → List (Option Reply)
answers_of_event setting system (Controls call) =
    answer_to (plan_at setting.maps setting.options (shard_of_call call)) system Controller call ∷ []
answers_of_event setting system event = []

-- the answers to the controller, from this state of the system on
abbrev pub answered : Setting → SystemState → List SystemEvent → List (Option Reply)
answered setting system [] = []
answered setting system (event ∷ later) =
    answers_of_event setting system event ++ answered setting (after_event setting system event) later

-- a call of a run, or the Enter before it, ends the run where the shard's journal is full for it
abbrev pub stop_for : Option ShardPlan → SystemState → Call → List Ending
stop_for (Some plan) system call =
    if journal_is_full plan (history_of system plan.number) call then Stopped plan.number ∷ [] else []
stop_for None system call = []

abbrev pub stop_at : Setting → SystemState → List ℕ → Step → List Ending
stop_at setting system entered (CallsMap call next) =
    if is_entered (shard_of_call call) entered
    then stop_for (plan_at setting.maps setting.options (shard_of_call call)) system call
    else stop_for (plan_at setting.maps setting.options (shard_of_call call)) system (Enter (shard_of_call call))
stop_at setting system entered step = []

abbrev pub stop_of : Setting → SystemState → WorkerState → List Ending
stop_of setting system (Runs state entered) = stop_at setting system entered (next_step (program_of_setting setting) state)
stop_of setting system state = []

-- and an instruction ends it where it exits
abbrev pub exit_at : Step → List Ending
exit_at (Exits verdict last) = Exited verdict last.frame.bytes last.steps ∷ []
exit_at step = []

abbrev pub exit_of : Setting → WorkerState → List Ending
exit_of setting (Runs state entered) = exit_at (next_step (program_of_setting setting) state)
exit_of setting state = []

abbrev pub ending_in : Setting → ℕ → SystemState → SystemEvent → List Ending
ending_in setting worker system (DoesInstruction one) = if one == worker then exit_of setting (worker_state system one) else []
ending_in setting worker system (CallsShard one) = if one == worker then stop_of setting system (worker_state system one) else []
ending_in setting worker system event = []

-- the ends of a worker's runs, from this state of the system on
abbrev pub ended_by : Setting → ℕ → SystemState → List SystemEvent → List Ending
ended_by setting worker system [] = []
ended_by setting worker system (event ∷ later) =
    ending_in setting worker system event ++ ended_by setting worker (after_event setting system event) later
