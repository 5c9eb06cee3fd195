-- How a replay's one list of events is made of the runs that are accounted for: each of these runs is a list of steps of the system around
-- this image; a worker's runs are one list of steps; and the events are those of all workers, with what the controller and the reclaimer did.
use Rattle.std.specs.Prelude.{◌≡◌, ℕ, ◌<◌, List, [], ◌∷◌, ◌++◌, reverse}
use Rattle.std.specs.List.{AllByRecursion}
use Rattle.wire.specs.FrameView.{FrameView}
use Rattle.wire.specs.declared.records.Sent.{Sent}
use Rattle.semantics.specs.declared.call.Entry.{Entry}
use Rattle.semantics.specs.declared.options.Options.{Options}
use Rattle.semantics.specs.declared.plan.ShardPlan.{ShardPlan}
use Rattle.semantics.specs.History.{IsSequentialStep}
use Rattle.verifier.specs.Verified.{Verified}
use Rattle.machine.specs.declared.exit.Stop.{Stop}
use Rattle.machine.specs.declared.exit.Stop.TheVariants.{JournalFull}
use Rattle.machine.specs.declared.moment.Moment.{Moment}
use Rattle.machine.specs.Running.{program_of}
use Rattle.journals.specs.JournalsView.{JournalsView, entries_at}
use Rattle.shards.specs.Deeds.{entries_made}
use Rattle.shards.specs.Passes.{PassView}
use Rattle.actors.specs.declared.runner.RunEnd.{RunEnd}
use Rattle.actors.specs.declared.runner.RunEnd.TheVariants.{Stopped, Exited}
use Rattle.control.specs.declared.command.Command.{Command}
use Rattle.actors.specs.declared.outcome.Outcome.{Outcome}
use Rattle.actors.specs.Accounted.{PlacedRun, runs_in_work, IsAccounted}
use Rattle.actors.specs.RunsOverShards.{time_of, IsRunIn}
use Rattle.semantics.specs.System.{Setting, SystemEvent}
use Rattle.guarantees.specs.Steps.{Move, TurnedAway, begins, does, asks, leavings}
use Rattle.guarantees.specs.SystemRuns.{setting_of, RanInSystem, HasStoppedInSystem}
use Rattle.guarantees.specs.ReplayMoves.{HasMoves}
use Rattle.guarantees.specs.Merging.{IsOneList}

-- when a worker runs a record's frame
abbrev pub moment_of : Sent → ℕ → Moment
moment_of captured worker = record { now_ns = time_of captured; worker = worker }

-- A run that is accounted for is one of the system around the image: from idle to idle, begun on its record's frame at its moment. Where it
-- ended, its steps end with its verdict, its frame and its number of instructions; and where a full journal stopped it, at that journal.
abbrev pub IsOfSystem : (verified : Verified) (options : Options) (plan : ℕ → ShardPlan) (count worker : ℕ) (journals : JournalsView)
    (captured : Sent) (before : PassView) (end : RunEnd) (after : PassView)
    → IsRunIn plan count (program_of verified options.shards) worker journals captured before end after → Type 0
IsOfSystem verified options plan count worker journals captured before Stopped after run =
    HasStoppedInSystem (setting_of verified options) worker (moment_of captured worker) captured.bytes.items plan count before after
    run.frame run.stop
IsOfSystem verified options plan count worker journals captured before (Exited steps fate) after run =
    RanInSystem (setting_of verified options) worker (moment_of captured worker) captured.bytes.items count before after
    run.verdict run.steps run.frame

-- each of these runs is
abbrev pub AreOfSystem : (verified : Verified) (options : Options) (plan : ℕ → ShardPlan) (count worker : ℕ) (journals : JournalsView)
    (records : List Sent) → List (PlacedRun plan count (program_of verified options.shards) worker journals records) → Type 0
AreOfSystem verified options plan count worker journals records runs =
    AllByRecursion
    (λ (one : PlacedRun plan count (program_of verified options.shards) worker journals records).
    IsOfSystem verified options plan count worker journals one.run.sent one.before one.ran.end one.after one.run.run)
    runs

-- ---- the moves of these runs

-- a run that was stopped: its last step meets a full journal
abbrev pub moves_to_stop : (setting : Setting) (worker : ℕ) (moment : Moment) (frame : List ℕ) (plan : ℕ → ShardPlan) (count : ℕ)
    (before after : PassView) (kept_back : FrameView) (stop : Stop) →
    HasStoppedInSystem setting worker moment frame plan count before after kept_back stop → List Move
moves_to_stop setting worker moment frame plan count before after kept_back (JournalFull shard) stopped =
    begins worker frame moment.now_ns moment.worker ∷ stopped.of_system.run ++
    asks worker (TurnedAway stopped.of_system.refused) ∷ leavings worker stopped.of_system.left

-- a run begins on its record's frame, at its moment, goes on, ends or is stopped, and leaves the shards that it entered
abbrev pub moves_of_run : (verified : Verified) (options : Options) (plan : ℕ → ShardPlan) (count worker : ℕ) (journals : JournalsView)
    (captured : Sent) (before : PassView) (end : RunEnd) (after : PassView)
    (run : IsRunIn plan count (program_of verified options.shards) worker journals captured before end after) →
    IsOfSystem verified options plan count worker journals captured before end after run → List Move
moves_of_run verified options plan count worker journals captured before Stopped after run stopped =
    moves_to_stop (setting_of verified options) worker (moment_of captured worker) captured.bytes.items plan count before after run.frame
    run.stop stopped
moves_of_run verified options plan count worker journals captured before (Exited steps fate) after run ended =
    begins worker captured.bytes.items (time_of captured) worker ∷ ended.of_system.run ++ does worker ∷ leavings worker ended.of_system.left

-- one run after the other
abbrev pub moves_of_runs : (verified : Verified) (options : Options) (plan : ℕ → ShardPlan) (count worker : ℕ) (journals : JournalsView)
    (records : List Sent) (runs : List (PlacedRun plan count (program_of verified options.shards) worker journals records)) →
    AreOfSystem verified options plan count worker journals records runs → List Move
moves_of_runs verified options plan count worker journals records [] are = []
moves_of_runs verified options plan count worker journals records (one ∷ later) are =
    moves_of_run verified options plan count worker journals one.run.sent one.before one.ran.end one.after one.run.run are.0
    ++ moves_of_runs verified options plan count worker journals records later are.1

-- Of a replay that accounts for its records, and a list of events: it is of these runs, these deeds and these journals.
pub record AreOfAccounted (verified : Verified) (script : List Command) (options : Options) (records : List Sent) (outcome : Outcome)
    (accounted : IsAccounted (program_of verified options.shards) script options records outcome) (events : List SystemEvent) : Type 0 where
  -- each reply in a journal is that of the one-thread map at the entry's own place
  pub own_place :
      (number : ℕ) → number < accounted.count → (earlier later : List Entry) (entry : Entry) →
      entries_at outcome.journals number ≡ earlier ++ entry ∷ later → IsSequentialStep (accounted.plan number) (reverse earlier) entry
  -- each run of the account, with the verdict, the frame and the number of instructions of its program's trace on its replies, is one of the
  -- system around this image
  pub of_system :
      (worker : ℕ) (below : worker < options.workers) →
      AreOfSystem verified options accounted.plan accounted.count worker outcome.journals records (runs_in_work (accounted.work worker below))
  -- and the worker's runs are one list of steps, from idle to idle, which wrote on each shard what its journal has of this worker, in
  -- order, and did over all shards what the order has of it
  pub moves : HasMoves (setting_of verified options) accounted.count accounted.runs outcome.journals accounted.order
  -- these steps are those of its runs, each on its record's frame, at its moment
  pub of_runs :
      (worker : ℕ) → worker < options.workers → (below : worker < options.workers)
      × (moves.moves worker
      ≡ moves_of_runs verified options accounted.plan accounted.count worker outcome.journals records (runs_in_work (accounted.work worker below))
      (of_system worker below))
  -- the steps of all workers, with what the controller and the reclaimer did, are the events: each worker's are in their order among them; they
  -- write the entries of the one order, in this order over all shards; after them the histories are the journals, and every worker is idle
  pub list :
      IsOneList (setting_of verified options) accounted.count (λ number. entries_at outcome.journals number) moves.moves
      (entries_made (reverse accounted.order))
  pub are : events ≡ list.events
