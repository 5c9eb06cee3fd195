-- A run alone as one list of events of the system: what the controller sets, and then one run by one worker. It is no `IsReplay`: no round of
-- the reclaimer follows it, and it is at any nanosecond, where a record has microseconds.
use Rattle.std.specs.Prelude.{◌≡◌, ℕ, ◌<◌, ◌==◌, ◌^◌, List, [], ◌∷◌, ◌++◌, map, Option, Some, if◌then◌else◌}
use Rattle.wire.specs.FrameView.{FrameView}
use Rattle.map_updates.specs.Misfits.{AreFitting}
use Rattle.map_updates.specs.declared.update.MapUpdate.{MapUpdate}
use Rattle.semantics.specs.declared.call.Call.{Call}
use Rattle.semantics.specs.declared.call.Entry.{Entry}
use Rattle.semantics.specs.declared.call.Reply.{Reply}
use Rattle.semantics.specs.declared.call.Reply.TheVariants.{Answer}
use Rattle.semantics.specs.declared.verdict.Verdict.{Verdict}
use Rattle.semantics.specs.Events.{Input, Ending, Exited, Stopped, begun_by, controlled, reclaimed, answered, ended_by}
use Rattle.semantics.specs.Linux.{success}
use Rattle.semantics.specs.MachineState.{initial_state}
use Rattle.semantics.specs.Replay.{shard_count}
use Rattle.semantics.specs.ShardPlan.{AreOptions}
use Rattle.semantics.specs.System.{Setting, program_of_setting, IsInputFrame, input_frame, SystemEvent, Controls, Idle}
use Rattle.semantics.specs.System.{worker_state, journal_of, opening_system, system_after, CanAllHappen}
use Rattle.journals.specs.JournalsView.{JournalsView, entries_at}
use Rattle.machine.specs.declared.exit.Stop.{Stop}
use Rattle.machine.specs.declared.exit.Stop.TheVariants.{JournalFull}
use Rattle.runs.specs.SingleRuns.{HasRunAlone, HasStoppedAlone}
use Rattle.runs.specs.Updates.{served_by, call_of_update}

-- These events, the oldest first, are these calls of the controller and then one run of a worker, which is begun on this and ends so; with
-- these answers, and these journals.
pub record IsOneRun (setting : Setting) (worker : ℕ) (input : Input) (calls : List Call) (ending : Ending) (answers : List (Option Reply))
    (journals : ℕ → List Entry) (events : List SystemEvent) : Type 0 where
  -- they can all happen, one after the other, from the opening on
  pub can : CanAllHappen setting events
  -- the calls come before all else
  pub run : List SystemEvent
  pub calls_first : events ≡ map (λ (call : Call). Controls call) calls ++ run
  -- the controller makes no others; the worker makes this run and no other worker makes any; and nothing is reclaimed
  pub called : controlled events ≡ calls
  pub begun : (one : ℕ) → begun_by one events ≡ (if one == worker then input ∷ [] else [])
  pub none_gone_over : reclaimed events ≡ []
  -- the run ends so, and each call has its answer
  pub ended : (one : ℕ) → ended_by setting one (opening_system setting) events ≡ (if one == worker then ending ∷ [] else [])
  pub answers_are : answered setting (opening_system setting) events ≡ answers
  -- after them each shard's history is its journal, and every worker is idle
  pub left :
      (shard : ℕ) → shard < shard_count setting →
      journal_of (system_after setting events) shard ≡ journals shard
  pub idle : (one : ℕ) → worker_state (system_after setting events) one ≡ Idle

-- ---- of `run_alone`

abbrev pub input_at : List ℕ → ℕ → ℕ → Input
input_at frame worker now = record { frame = frame; now = now; told = worker }

abbrev pub calls_of_updates : Setting → List MapUpdate → List Call
calls_of_updates setting updates = map (call_of_update (served_by setting.maps setting.options)) updates

-- every update is taken
abbrev pub all_taken : List MapUpdate → List (Option Reply)
all_taken updates = map (λ (update : MapUpdate). Some (Answer success)) updates

abbrev pub ending_at : Stop → Ending
ending_at (JournalFull shard) = Stopped shard

-- the updates, and a run behind them that ended so and left these journals
pub record IsAloneInSystem (setting : Setting) (worker now : ℕ) (frame : List ℕ) (updates : List MapUpdate) (ending : Ending)
    (journals : JournalsView) : Type 0 where
  pub events : List SystemEvent
  pub are :
      IsOneRun setting worker (input_at frame worker now) (calls_of_updates setting updates) ending (all_taken updates)
      (λ shard. entries_at journals shard) events

-- what is asked of one run alone
pub record IsAskedAlone (setting : Setting) (worker now : ℕ) (frame : List ℕ) (updates : List MapUpdate) : Type 0 where
  pub options : AreOptions setting.maps setting.options
  pub few : worker < setting.options.workers
  pub input : IsInputFrame frame
  pub early : now < 2 ^ 64
  pub fit : AreFitting setting.maps updates

-- what `run_alone` ensures of a run that ended is one list of events
abbrev pub RunsAloneAreOfTheSystem : Type 0
RunsAloneAreOfTheSystem =
    (setting : Setting) (worker now : ℕ) (frame : List ℕ) (updates : List MapUpdate) (verdict : Verdict) (steps : ℕ) (sent : FrameView)
    (journals : JournalsView) →
    IsAskedAlone setting worker now frame updates →
    HasRunAlone (program_of_setting setting) (initial_state (input_frame frame) worker now) setting.options worker updates verdict steps sent journals →
    IsAloneInSystem setting worker now frame updates (Exited verdict sent.bytes steps) journals

-- and so is what it ensures of one that a full journal stopped
abbrev pub StoppedRunsAloneAreOfTheSystem : Type 0
StoppedRunsAloneAreOfTheSystem =
    (setting : Setting) (worker now : ℕ) (frame : List ℕ) (updates : List MapUpdate) (left : FrameView) (stop : Stop)
    (journals : JournalsView) →
    IsAskedAlone setting worker now frame updates →
    HasStoppedAlone (program_of_setting setting) (initial_state (input_frame frame) worker now) setting.options worker updates left stop journals →
    IsAloneInSystem setting worker now frame updates (ending_at stop) journals
