-- The runs of a worker over shared shards.
use Rattle.std.specs.Prelude.{◌≡◌, ◌⊎◌, ◌<◌, ℕ, ◌+◌, ◌*◌, List, [], reverse, Option, Some, None}
use Rattle.wire.specs.FrameView.{FrameView}
use Rattle.wire.specs.declared.records.Sent.{Sent}
use Rattle.semantics.specs.declared.call.Caller.TheVariants.{Worker}
use Rattle.semantics.specs.declared.call.Call.{Call}
use Rattle.semantics.specs.declared.call.Call.TheVariants.{Enter}
use Rattle.semantics.specs.declared.options.Options.{Options}
use Rattle.semantics.specs.declared.plan.ShardPlan.{ShardPlan}
use Rattle.semantics.specs.declared.verdict.Verdict.{Verdict}
use Rattle.semantics.specs.declared.verdict.Verdict.TheVariants as verdicts
use Rattle.semantics.specs.MachineState.{MachineState, initial_state}
use Rattle.semantics.specs.History.{shard_of_call, IsJournalFull}
use Rattle.semantics.specs.Program.{Program}
use Rattle.journals.specs.JournalsView.{JournalsView, entries_at}
use Rattle.machine.specs.declared.exit.Stop.{Stop}
use Rattle.machine.specs.declared.exit.Stop.TheVariants.{JournalFull}
use Rattle.runs.specs.FrameRuns.{HasRun, WasRefused, HasStopped}
use Rattle.shards.specs.CallerView.{nothing_seen}
use Rattle.shards.specs.Passes.{PassView, view_at, own_at}
use Rattle.shard_port.specs.PassSessions.{IsOutsideAt}
use Rattle.actors.specs.declared.runner.RunEnd.{RunEnd}
use Rattle.actors.specs.declared.runner.RunEnd.TheVariants.{Stopped, Exited}
use Rattle.actors.specs.declared.runner.FrameFate.TheVariants.{Aborted, Dropped, Passed, Sent as IsSent}
use Rattle.actors.specs.declared.worker.Working.{Working}

-- ---- a worker's pass

-- it has seen nothing
pub record IsNewPass (worker : ℕ) (pass : PassView) : Type 0 where
  pub who : pass.who ≡ Worker worker
  pub nothing : (number : ℕ) → view_at pass number ≡ nothing_seen
  pub idle : pass.deeds ≡ []

-- between two runs the worker is outside of every shard
pub record IsIdle (count worker : ℕ) (options : Options) (pass : PassView) : Type 0 where
  pub who : pass.who ≡ Worker worker
  pub below : worker < options.workers
  pub outside : (number : ℕ) → number < count → IsOutsideAt worker pass number

-- the pass that a worker keeps from run to run
abbrev pub pass_in : {B : Type 0} → Working B → PassView
pass_in working = working.pass

-- a worker before its first run
abbrev pub IsNewAt : {B : Type 0} → ℕ → Working B → Type 0
IsNewAt worker working = IsNewPass worker (pass_in working)

-- ---- a run

-- a record's time in nanoseconds
abbrev pub time_of : Sent → ℕ
time_of sent = (sent.seconds * 1000000 + sent.micros) * 1000

-- how a run of a record begins
abbrev pub start_of : Sent → ℕ → MachineState
start_of sent worker = initial_state (record { bytes = sent.bytes.items; headroom = 256 }) worker (time_of sent)

-- a frame of the record's moment with these bytes
pub record IsSentOf (captured : Sent) (bytes : List ℕ) (sent : Sent) : Type 0 where
  pub seconds : sent.seconds ≡ captured.seconds
  pub micros : sent.micros ≡ captured.micros
  pub bytes_are : sent.bytes.items ≡ bytes

-- what became of the record's frame is what the verdict says of it, as the run left it
abbrev pub IsTold : Sent → Verdict → FrameView → RunEnd → Type 0
IsTold captured verdict frame Stopped = ⊥
IsTold captured verdict frame (Exited steps Aborted) = verdict ≡ verdicts.Aborted
IsTold captured verdict frame (Exited steps Dropped) = verdict ≡ verdicts.Drop
IsTold captured verdict frame (Exited steps Passed) = verdict ≡ verdicts.Pass
IsTold captured verdict frame (Exited steps (IsSent sent)) = (verdict ≡ verdicts.Tx) × IsSentOf captured frame.bytes sent

-- in how many steps the run ended
abbrev pub steps_in : RunEnd → Option ℕ
steps_in Stopped = None
steps_in (Exited steps fate) = Some steps

-- the run ended: by the program's own trace on the replies that are among the worker's entries, session by session
pub record IsExit (count : ℕ) (program : Program) (worker : ℕ) (captured : Sent) (before : PassView) (end : RunEnd)
    (after : PassView) : Type 0 where
  pub verdict : Verdict
  pub steps : ℕ
  pub frame : FrameView
  pub run : HasRun program (start_of captured worker) count worker before after verdict steps frame
  pub told : IsTold captured verdict frame end
  pub counted : steps_in end ≡ Some steps

-- the run was stopped, since a journal was full for its next call or for the Enter before it
pub record IsStop (count : ℕ) (plan : ℕ → ShardPlan) (program : Program) (worker : ℕ) (captured : Sent)
    (before after : PassView) : Type 0 where
  pub frame : FrameView
  pub stop : Stop
  pub run : HasStopped program (start_of captured worker) plan count worker before after frame stop

abbrev pub IsRunOf : ℕ → (ℕ → ShardPlan) → Program → ℕ → Sent → PassView → RunEnd → PassView → Type 0
IsRunOf count plan program worker captured before Stopped after = IsStop count plan program worker captured before after
IsRunOf count plan program worker captured before end after = IsExit count program worker captured before end after

-- the same of what a worker keeps
abbrev pub IsRunBy : {B : Type 0} → ℕ → (ℕ → ShardPlan) → Program → ℕ → Sent → Working B → RunEnd → Working B → Type 0
IsRunBy count plan program worker captured before end after =
    IsRunOf count plan program worker captured (pass_in before) end (pass_in after)

-- ---- compared with the journals

-- the journal of the shard of a refused call is full for it at its end; or, where the run had not entered the shard, and so wrote nothing
-- there, full for its Enter
abbrev pub IsFullAtEnd : (ℕ → ShardPlan) → JournalsView → PassView → PassView → Call → Type 0
IsFullAtEnd plan journals before after call =
    IsJournalFull (plan (shard_of_call call)) (reverse (entries_at journals (shard_of_call call))) call
    ⊎ ((own_at after (shard_of_call call) ≡ own_at before (shard_of_call call))
    × IsJournalFull (plan (shard_of_call call)) (reverse (entries_at journals (shard_of_call call))) (Enter (shard_of_call call)))

-- the run was stopped, and what stopped it holds at the journals' end
abbrev pub StopsFor : (ℕ → ShardPlan) → ℕ → Program → ℕ → JournalsView → Sent → PassView → PassView → FrameView → Stop → Type 0
StopsFor plan count program worker journals captured before after frame (JournalFull shard) =
    (was : WasRefused program (start_of captured worker) plan count worker before after frame shard)
    × IsFullAtEnd plan journals before after was.refused

pub record IsStopIn (plan : ℕ → ShardPlan) (count : ℕ) (program : Program) (worker : ℕ) (journals : JournalsView) (captured : Sent)
    (before after : PassView) : Type 0 where
  pub frame : FrameView
  pub stop : Stop
  pub run : StopsFor plan count program worker journals captured before after frame stop

abbrev pub IsRunIn : (ℕ → ShardPlan) → ℕ → Program → ℕ → JournalsView → Sent → PassView → RunEnd → PassView → Type 0
IsRunIn plan count program worker journals captured before Stopped after = IsStopIn plan count program worker journals captured before after
IsRunIn plan count program worker journals captured before end after = IsExit count program worker captured before end after
