-- The runs of a worker one by one, each with its moves, its end and what it did.
use Rattle.std.proofs.Common.{◌≡◌, ℕ, List, [], ◌∷◌, ◌++◌, Some, refl, sym, ◌∙◌, ap}
use Rattle.std.specs.Prelude.{slice_get}
use Rattle.std.specs.List.{AllByRecursion, flat_map}
use Rattle.wire.specs.FrameView.{FrameView}
use Rattle.wire.specs.declared.records.Sent.{Sent}
use Rattle.semantics.specs.declared.options.Options.{Options}
use Rattle.semantics.specs.declared.plan.ShardPlan.{ShardPlan}
use Rattle.semantics.specs.Events.{Ending}
use Rattle.semantics.specs.Replay.{input_of}
use Rattle.semantics.specs.System.{Setting, WorkerState, Idle}
use Rattle.verifier.specs.Verified.{Verified}
use Rattle.machine.specs.Running.{program_of}
use Rattle.journals.specs.JournalsView.{JournalsView}
use Rattle.machine.specs.declared.exit.Stop.{Stop}
use Rattle.machine.specs.declared.exit.Stop.TheVariants.{JournalFull}
use Rattle.shards.specs.Passes.{PassView}
use Rattle.actors.specs.Shares.{captured_of}
use Rattle.actors.specs.declared.runner.Ran.{Ran}
use Rattle.actors.specs.declared.runner.RunEnd.{RunEnd}
use Rattle.actors.specs.declared.runner.RunEnd.TheVariants.{Stopped as WasStopped, Exited as HasExited}
use Rattle.actors.specs.Accounted.{PlacedRun, runs_in_chain}
use Rattle.actors.specs.RunsInOrder.{IsRunAt, IsChainOfRuns}
use Rattle.actors.specs.RunsOverShards.{IsRunIn}
use Rattle.guarantees.specs.Merging.{events_of}
use Rattle.guarantees.specs.RunsInList.{moment_of, IsOfSystem, AreOfSystem, moves_to_stop, moves_of_run, moves_of_runs}
use Rattle.guarantees.specs.Steps.{TurnedAway, Move, does, asks, leavings, IsStep, RunBegins, RunGoesOn, RunEnds, CallIsServed, ShardIsEntered, CallIsRefused, EnterIsRefused, ShardIsLeft, InRun, running, AreStepsOfRun, beginning, deeds_in}
use Rattle.guarantees.specs.SystemRuns.{setting_of, HasStoppedInSystem}
use Rattle.guarantees.specs.TurnByTurn.{TheRecord, IsWithinRun, IsWholeRun, TurnDeeds, AreDeedsOfRuns}
use Rattle.actors.proofs.shared.DeedLemmas.{same_more}
use Rattle.guarantees.proofs.EndLemmas.{Walk}
use Rattle.guarantees.proofs.ReplayMoves.{run_did}
use Rattle.guarantees.proofs.RunEnds.{moves_so, ending_so, endings_of, run_so}

-- ---- the events of one run

abbrev AreWithin : ℕ → List Move → Type 0
AreWithin worker moves = AllByRecursion (IsWithinRun worker) (events_of moves)

step_within : (setting : Setting) (count worker : ℕ) (before : WorkerState) (move : Move) (after : WorkerState) →
    IsStep setting count worker before move after → (here : InRun) → before ≡ running here → IsWithinRun worker move.event
step_within setting count worker before move after (RunBegins frame now told few input early low) here is = absurd cc
step_within setting count worker before move after (RunGoesOn state next entered step) here is = refl
step_within setting count worker before move after (RunEnds state last verdict entered step) here is = refl
step_within setting count worker before move after (CallIsServed state entered call next reply step within inside formed) here is = refl
step_within setting count worker before move after (ShardIsEntered state entered call next step within outside) here is = refl
step_within setting count worker before move after (CallIsRefused state entered call next step within inside) here is = refl
step_within setting count worker before move after (EnterIsRefused state entered call next step within outside) here is = refl
step_within setting count worker before move after (ShardIsLeft shard entered within inside) here is = absurd cc

run_within : (setting : Setting) (count worker : ℕ) (moves later : List Move) (before after : InRun) → AreStepsOfRun setting count worker before moves after →
    AreWithin worker later → AreWithin worker (moves ++ later)
run_within setting count worker [] later before after steps rest = rest
run_within setting count worker (move ∷ moves) later before after steps rest = (
  step_within setting count worker (running before) move (running steps.0) steps.1 before refl,
  run_within setting count worker moves later steps.0 after steps.2 rest,
)

leaving_within : (worker : ℕ) (left : List ℕ) → AreWithin worker (leavings worker left)
leaving_within worker [] = tt
leaving_within worker (shard ∷ left) = (refl, leaving_within worker left)

stop_whole : (setting : Setting) (count worker : ℕ) (plan : ℕ → ShardPlan) (captured : Sent) (before after : PassView) (kept_back : FrameView)
    (stop : Stop) → (stopped : HasStoppedInSystem setting worker (moment_of captured worker) captured.bytes.items plan count before after kept_back stop) →
    IsWholeRun worker (input_of worker (captured_of captured))
    (events_of (moves_to_stop setting worker (moment_of captured worker) captured.bytes.items plan count before after kept_back stop stopped))
stop_whole setting count worker plan captured before after kept_back (JournalFull shard) stopped =
    let is = stopped.of_system in
    let final : List Move = asks worker (TurnedAway is.refused) ∷ leavings worker is.left in (
      events_of (is.run ++ final),
      refl,
      run_within setting count worker is.run final (beginning captured.bytes.items worker (moment_of captured worker).now_ns)
          (record { state = stopped.waiting; entered = is.entered }) is.goes_on (refl, leaving_within worker is.left),
    )

-- ---- the runs of a worker

pub record OneRun : Type 0 where
  pub number : ℕ
  pub moves : List Move
  pub ends : List Ending

abbrev pub moves_in : List OneRun → List Move
moves_in runs = flat_map (λ (one : OneRun). one.moves) runs

abbrev pub ends_among : List OneRun → List Ending
ends_among runs = flat_map (λ (one : OneRun). one.ends) runs

-- its moves lead from idle to idle, are of one run on its record, and end so
pub record IsRunOn (setting : Setting) (count : ℕ) (records : List Sent) (worker : ℕ) (one : OneRun) : Type 0 where
  pub sent : Sent
  pub known : slice_get records one.number ≡ Some sent
  pub walk : Walk setting count worker Idle one.moves one.ends
  pub whole : IsWholeRun worker (input_of worker (captured_of sent)) (events_of one.moves)

-- each did what was done in its record's turn
abbrev pub AreTaken : ℕ → List OneRun → List TurnDeeds → Type 0
AreTaken worker [] [] = Unit {0}
AreTaken worker [] (part ∷ done) = ⊥
AreTaken worker (one ∷ runs) [] = ⊥
AreTaken worker (one ∷ runs) (part ∷ done) =
    (part.turn ≡ TheRecord one.number) × (deeds_in worker one.moves ≡ part.deeds) × AreTaken worker runs done

module _ (verified : Verified) (options : Options) (plan : ℕ → ShardPlan) (count worker : ℕ) (journals : JournalsView) where
  whole_so : (captured : Sent) (before : PassView) (end : RunEnd) (after : PassView)
      (run : IsRunIn plan count (program_of verified options.shards) worker journals captured before end after) →
      (of_system : IsOfSystem verified options plan count worker journals captured before end after run) →
      IsWholeRun worker (input_of worker (captured_of captured))
      (events_of (moves_of_run verified options plan count worker journals captured before end after run of_system))
  whole_so captured before WasStopped after run of_system =
      stop_whole (setting_of verified options) count worker plan captured before after run.frame run.stop of_system
  whole_so captured before (HasExited steps fate) after run of_system =
      let is = of_system.of_system in
      let final : List Move = does worker ∷ leavings worker is.left in (
        events_of (is.run ++ final),
        refl,
        run_within (setting_of verified options) count worker is.run final (beginning captured.bytes.items worker (moment_of captured worker).now_ns) is.ending
            is.goes_on (refl, leaving_within worker is.left),
      )

  module _ (records : List Sent) where
    abbrev Placed : Type 0
    Placed = PlacedRun plan count (program_of verified options.shards) worker journals records

    abbrev AreOf : List Placed → Type 0
    AreOf runs = AreOfSystem verified options plan count worker journals records runs

    abbrev pub runs_of : (runs : List Placed) → AreOf runs → List OneRun
    runs_of [] are = []
    runs_of (one ∷ later) are =
        record {
          number = one.ran.number;
          moves = moves_so verified options plan count worker journals records one are.0;
          ends = ending_so verified options plan count worker journals records one are.0 ∷ [];
        }
        ∷ runs_of later are.1

    pub moves_are : (runs : List Placed) (are : AreOf runs) →
        moves_in (runs_of runs are) ≡ moves_of_runs verified options plan count worker journals records runs are
    moves_are [] are = refl
    moves_are (one ∷ later) are =
        ap (λ (list : List Move). moves_so verified options plan count worker journals records one are.0 ++ list) (moves_are later are.1)

    pub ends_are : (runs : List Placed) (are : AreOf runs) →
        ends_among (runs_of runs are) ≡ endings_of verified options plan count worker journals records runs are
    unfolding endings_of
    ends_are [] are = refl
    ends_are (one ∷ later) are =
        ap (λ (list : List Ending). ending_so verified options plan count worker journals records one are.0 ∷ list) (ends_are later are.1)

    pub runs_are : (runs : List Placed) (are : AreOf runs) →
        AllByRecursion (IsRunOn (setting_of verified options) count records worker) (runs_of runs are)
    runs_are [] are = tt
    runs_are (one ∷ later) are = (
      record {
        sent = one.run.sent;
        known = one.run.known;
        walk = (run_so verified options plan count worker journals one.run.sent one.before one.ran.end one.after one.run.run are.0).walk;
        whole = whole_so one.run.sent one.before one.ran.end one.after one.run.run are.0;
      },
      runs_are later are.1,
    )

    abbrev IsOf : PassView → Ran → PassView → Type 0
    IsOf = IsRunAt (IsRunIn plan count (program_of verified options.shards) worker journals) records

    pub taken_are : (before : PassView) (runs : List Ran) (after : PassView) (chain : IsChainOfRuns IsOf before runs after) →
        (are : AreOf (runs_in_chain IsOf before runs after chain)) → (done : List TurnDeeds) →
        AreDeedsOfRuns IsOf before runs after chain done → AreTaken worker (runs_of (runs_in_chain IsOf before runs after chain) are) done
    taken_are before [] after chain are [] did = tt
    taken_are before [] after chain are (one ∷ done) did = absurd did
    taken_are before (ran ∷ later) after chain are [] did = absurd did
    taken_are before (ran ∷ later) after chain are (one ∷ done) did =
        let moves : List Move = moves_of_run verified options plan count worker journals chain.1.sent before ran.end chain.0 chain.1.run are.0 in (
          did.0,
          same_more (deeds_in worker moves) one.deeds before.deeds
              (sym (run_did verified options plan count worker journals chain.1.sent before chain.0 ran.end chain.1.run are.0) ∙ did.1),
          taken_are chain.0 later after chain.2 are.1 done did.2,
        )
