-- The moves of a worker's runs, with what these are begun on and how they end.
use Rattle.std.proofs.Common.{◌≡◌, ℕ, Bool, List, [], ◌∷◌, ◌++◌, refl, sym, ◌∙◌, ap, subst, append_assoc}
use Rattle.std.specs.Prelude.{map, if◌then◌else◌}
use Rattle.wire.specs.FrameView.{FrameView}
use Rattle.wire.specs.declared.records.Sent.{Sent}
use Rattle.semantics.specs.declared.options.Options.{Options}
use Rattle.semantics.specs.declared.plan.ShardPlan.{ShardPlan}
use Rattle.semantics.specs.declared.verdict.Verdict.{Verdict}
use Rattle.semantics.specs.declared.call.Call.{Call}
use Rattle.semantics.specs.MachineState.{MachineState}
use Rattle.semantics.specs.History.{shard_of_call}
use Rattle.semantics.specs.Step.{Step, Exits}
use Rattle.semantics.specs.Semantics.{next_step}
use Rattle.semantics.specs.System.{Setting, program_of_setting, SystemEvent, WorkerState, Idle, run_over}
use Rattle.verifier.specs.Verified.{Verified}
use Rattle.machine.specs.declared.exit.Stop.{Stop}
use Rattle.machine.specs.declared.exit.Stop.TheVariants.{JournalFull}
use Rattle.machine.specs.declared.moment.Moment.{Moment}
use Rattle.machine.specs.Running.{program_of}
use Rattle.journals.specs.JournalsView.{JournalsView}
use Rattle.shards.specs.Passes.{PassView}
use Rattle.actors.specs.Shares.{captured_of}
use Rattle.actors.specs.declared.runner.RunEnd.{RunEnd}
use Rattle.actors.specs.declared.runner.RunEnd.TheVariants.{Stopped as WasStopped, Exited as HasExited}
use Rattle.actors.specs.Accounted.{PlacedRun}
use Rattle.actors.specs.RunsOverShards.{IsRunIn}
use Rattle.semantics.specs.Events.{Input, Ending, Exited, Stopped, begun_by, exit_at}
use Rattle.semantics.specs.Replay.{Captured, input_of}
use Rattle.guarantees.specs.Steps.{TurnedAway, Move, begins, does, asks, IsStep, RunBegins, RunGoesOn, RunEnds, CallIsServed, ShardIsEntered, CallIsRefused, EnterIsRefused, ShardIsLeft, AreSteps, InRun, running, AreStepsOfRun, beginning, leavings}
use Rattle.guarantees.specs.SystemRuns.{setting_of, RanInSystem, HasStoppedInSystem}
use Rattle.guarantees.specs.Merging.{events_of}
use Rattle.guarantees.specs.RunsInList.{moment_of, IsOfSystem, AreOfSystem, moves_to_stop, moves_of_run, moves_of_runs}
use Rattle.guarantees.proofs.MoveLemmas.{own_event}
use Rattle.guarantees.proofs.EndLemmas.{ends_of_asked, ends_in, Walk}
use Rattle.guarantees.proofs.AnswerLemmas.{then_begun}
use Rattle.guarantees.proofs.OneWorker.{over_is_not}

-- ---- walks, one behind the other

pub then_walk : (setting : Setting) (count worker : ℕ) (moves later : List Move) (before : WorkerState) (first second : List Ending) →
    Walk setting count worker before moves first → Walk setting count worker Idle later second →
    Walk setting count worker before (moves ++ later) (first ++ second)
then_walk setting count worker [] later before first second walk more =
    subst (λ (ends : List Ending). Walk setting count worker before later (ends ++ second)) walk.ends_are
    (subst (λ (state : WorkerState). Walk setting count worker state later second) (sym walk.steps) more)
then_walk setting count worker (move ∷ moves) later before first second walk more =
    let here : List Ending = ends_of_asked setting before move.event move.asked in
    let own : List Ending = ends_in setting count worker walk.steps.0 moves Idle walk.steps.2 in
    let rest = then_walk setting count worker moves later walk.steps.0 own second (record { steps = walk.steps.2; ends_are = refl }) more in
    record {
      steps = (walk.steps.0, walk.steps.1, rest.steps);
      ends_are = ap (λ (ends : List Ending). here ++ ends) rest.ends_are ∙ sym (append_assoc here own second)
          ∙ ap (λ (ends : List Ending). ends ++ second) walk.ends_are;
    }

-- a step within a run ends none
no_end_within : (setting : Setting) (count worker : ℕ) (before : WorkerState) (move : Move) (after : WorkerState) →
    IsStep setting count worker before move after → (here : InRun) → after ≡ running here →
    ends_of_asked setting before move.event move.asked ≡ []
no_end_within setting count worker before move after (RunBegins frame now told few input early low) here is = refl
no_end_within setting count worker before move after (RunGoesOn state next entered step) here is = ap exit_at step
no_end_within setting count worker before move after (RunEnds state last verdict entered step) here is = absurd (over_is_not entered here is)
no_end_within setting count worker before move after (CallIsServed state entered call next reply step within inside formed) here is = refl
no_end_within setting count worker before move after (ShardIsEntered state entered call next step within outside) here is = refl
no_end_within setting count worker before move after (CallIsRefused state entered call next step within inside) here is =
    absurd (over_is_not entered here is)
no_end_within setting count worker before move after (EnterIsRefused state entered call next step within outside) here is =
    absurd (over_is_not entered here is)
no_end_within setting count worker before move after (ShardIsLeft shard entered within inside) here is = refl

as_walk : (setting : Setting) (count worker : ℕ) (moves later : List Move) (before after : InRun) (ends : List Ending) →
    AreStepsOfRun setting count worker before moves after → Walk setting count worker (running after) later ends →
    Walk setting count worker (running before) (moves ++ later) ends
as_walk setting count worker [] later before after ends steps walk =
    subst (λ (here : InRun). Walk setting count worker (running here) later ends) (sym steps) walk
as_walk setting count worker (move ∷ moves) later before after ends steps walk =
    let rest = as_walk setting count worker moves later steps.0 after ends steps.2 walk in
    record {
      steps = (running steps.0, steps.1, rest.steps);
      ends_are = ap (λ (list : List Ending). list ++ ends_in setting count worker (running steps.0) (moves ++ later) Idle rest.steps)
          (no_end_within setting count worker (running before) move (running steps.0) steps.1 steps.0 refl)
          ∙ rest.ends_are;
    }

leaving_ends_none : (setting : Setting) (count worker : ℕ) (left : List ℕ) (before : WorkerState) →
    (steps : AreSteps setting count worker before (leavings worker left) Idle) →
    ends_in setting count worker before (leavings worker left) Idle steps ≡ []
leaving_ends_none setting count worker [] before steps = refl
leaving_ends_none setting count worker (shard ∷ left) before steps = leaving_ends_none setting count worker left steps.0 steps.2

-- ---- what they begin

begins_none : (setting : Setting) (count worker : ℕ) (before : WorkerState) (move : Move) (after : WorkerState) →
    IsStep setting count worker before move after → (here : InRun) → before ≡ running here → (later : List SystemEvent) →
    begun_by worker (move.event ∷ later) ≡ begun_by worker later
begins_none setting count worker before move after (RunBegins frame now told few input early low) here is later = absurd cc
begins_none setting count worker before move after (RunGoesOn state next entered step) here is later = refl
begins_none setting count worker before move after (RunEnds state last verdict entered step) here is later = refl
begins_none setting count worker before move after (CallIsServed state entered call next reply step within inside formed) here is later = refl
begins_none setting count worker before move after (ShardIsEntered state entered call next step within outside) here is later = refl
begins_none setting count worker before move after (CallIsRefused state entered call next step within inside) here is later = refl
begins_none setting count worker before move after (EnterIsRefused state entered call next step within outside) here is later = refl
begins_none setting count worker before move after (ShardIsLeft shard entered within inside) here is later = refl

run_begins_none : (setting : Setting) (count worker : ℕ) (moves later : List Move) (before after : InRun) →
    AreStepsOfRun setting count worker before moves after →
    begun_by worker (events_of (moves ++ later)) ≡ begun_by worker (events_of later)
run_begins_none setting count worker [] later before after steps = refl
run_begins_none setting count worker (move ∷ moves) later before after steps =
    begins_none setting count worker (running before) move (running steps.0) steps.1 before refl (events_of (moves ++ later))
    ∙ run_begins_none setting count worker moves later steps.0 after steps.2

pub leaving_begins_none : (worker : ℕ) (left : List ℕ) → begun_by worker (events_of (leavings worker left)) ≡ []
leaving_begins_none worker [] = refl
leaving_begins_none worker (shard ∷ left) = leaving_begins_none worker left

begins_one : (worker : ℕ) (frame : List ℕ) (now : ℕ) (moves : List Move) → begun_by worker (events_of moves) ≡ [] →
    begun_by worker (events_of (begins worker frame now worker ∷ moves)) ≡ record { frame = frame; now = now; told = worker } ∷ []
begins_one worker frame now moves none =
    ap (λ (test : Bool). if test then record { frame = frame; now = now; told = worker } ∷ begun_by worker (events_of moves)
    else begun_by worker (events_of moves)) (own_event worker)
    ∙ ap (λ (list : List Input). record { frame = frame; now = now; told = worker } ∷ list) none

-- ---- one run

-- a worker's moves from idle to idle, with what they begin and how that ends
pub record IsRunOn (setting : Setting) (count worker : ℕ) (input : Input) (moves : List Move) (ending : Ending) : Type 0 where
  pub walk : Walk setting count worker Idle moves (ending ∷ [])
  pub begun : begun_by worker (events_of moves) ≡ input ∷ []

-- steps of a run, and then moves with which it ends so
pub run_on : (setting : Setting) (count worker told now : ℕ) (frame : List ℕ) (run final : List Move) (here : InRun) (ending : Ending) → told ≡ worker →
    IsStep setting count worker Idle (begins worker frame now told) (running (beginning frame told now)) →
    AreStepsOfRun setting count worker (beginning frame told now) run here → Walk setting count worker (running here) final (ending ∷ []) →
    begun_by worker (events_of final) ≡ [] →
    IsRunOn setting count worker (record { frame = frame; now = now; told = worker }) (begins worker frame now told ∷ run ++ final) ending
run_on setting count worker told now frame run final here ending own first goes_on rest none =
    let walk = as_walk setting count worker run final (beginning frame told now) here (ending ∷ []) goes_on rest in
    record {
      walk = record { steps = (running (beginning frame told now), first, walk.steps); ends_are = walk.ends_are };
      begun = ap (λ (number : ℕ). begun_by worker (events_of (begins worker frame now number ∷ run ++ final))) own
          ∙ begins_one worker frame now (run ++ final)
          (run_begins_none setting count worker run final (beginning frame told now) here goes_on ∙ none);
    }

-- the instruction that ends a run, and leaving
pub exit_walk : (setting : Setting) (count worker : ℕ) (here : InRun) (verdict : Verdict) (last : MachineState) (left : List ℕ) →
    next_step (program_of_setting setting) here.state ≡ Exits verdict last → IsStep setting count worker (running here) (does worker) (run_over here.entered) →
    AreSteps setting count worker (run_over here.entered) (leavings worker left) Idle →
    Walk setting count worker (running here) (does worker ∷ leavings worker left) (Exited verdict last.frame.bytes last.steps ∷ [])
exit_walk setting count worker here verdict last left exits ends leaves = record {
  steps = (run_over here.entered, ends, leaves);
  ends_are = ap (λ (step : Step). exit_at step ++ ends_in setting count worker (run_over here.entered) (leavings worker left) Idle leaves) exits
      ∙ ap (λ (list : List Ending). Exited verdict last.frame.bytes last.steps ∷ list)
      (leaving_ends_none setting count worker left (run_over here.entered) leaves);
}

-- the call that met a full journal, and leaving
pub stop_walk : (setting : Setting) (count worker : ℕ) (here : InRun) (refused : Call) (left : List ℕ) →
    IsStep setting count worker (running here) (asks worker (TurnedAway refused)) (run_over here.entered) →
    AreSteps setting count worker (run_over here.entered) (leavings worker left) Idle →
    Walk setting count worker (running here) (asks worker (TurnedAway refused) ∷ leavings worker left) (Stopped (shard_of_call refused) ∷ [])
stop_walk setting count worker here refused left refuses leaves = record {
  steps = (run_over here.entered, refuses, leaves);
  ends_are = ap (λ (list : List Ending). Stopped (shard_of_call refused) ∷ list)
      (leaving_ends_none setting count worker left (run_over here.entered) leaves);
}

ran_so : (setting : Setting) (count worker : ℕ) (moment : Moment) (frame : List ℕ) (before after : PassView) (sent : FrameView)
    (verdict : Verdict) (steps : ℕ) → moment.worker ≡ worker → (ran : RanInSystem setting worker moment frame count before after verdict steps sent) →
    IsRunOn setting count worker (record { frame = frame; now = moment.now_ns; told = worker })
    (begins worker frame moment.now_ns moment.worker ∷ ran.of_system.run ++ does worker ∷ leavings worker ran.of_system.left)
    (Exited verdict ran.last.frame.bytes ran.last.steps)
ran_so setting count worker moment frame before after sent verdict steps own ran =
    let is = ran.of_system in
    run_on setting count worker moment.worker moment.now_ns frame is.run (does worker ∷ leavings worker is.left) is.ending
    (Exited verdict ran.last.frame.bytes ran.last.steps) own is.begins_so is.goes_on
    (exit_walk setting count worker is.ending verdict ran.last is.left is.exits is.ends is.leaves) (leaving_begins_none worker is.left)

-- how a stopped run ended
unfoldable pub ending_at_stop : (setting : Setting) (worker : ℕ) (moment : Moment) (frame : List ℕ) (plan : ℕ → ShardPlan) (count : ℕ)
    (before after : PassView) (kept_back : FrameView) (stop : Stop) →
    HasStoppedInSystem setting worker moment frame plan count before after kept_back stop → Ending
ending_at_stop setting worker moment frame plan count before after kept_back (JournalFull shard) stopped =
    Stopped (shard_of_call stopped.of_system.refused)

stopped_so : (setting : Setting) (count worker : ℕ) (plan : ℕ → ShardPlan) (moment : Moment) (frame : List ℕ) (before after : PassView)
    (kept_back : FrameView) (stop : Stop) → moment.worker ≡ worker →
    (stopped : HasStoppedInSystem setting worker moment frame plan count before after kept_back stop) →
    IsRunOn setting count worker (record { frame = frame; now = moment.now_ns; told = worker })
    (moves_to_stop setting worker moment frame plan count before after kept_back stop stopped)
    (ending_at_stop setting worker moment frame plan count before after kept_back stop stopped)
unfolding ending_at_stop
stopped_so setting count worker plan moment frame before after kept_back (JournalFull shard) own stopped =
    let is = stopped.of_system in
    let waiting : InRun = record { state = stopped.waiting; entered = is.entered } in
    run_on setting count worker moment.worker moment.now_ns frame is.run (asks worker (TurnedAway is.refused) ∷ leavings worker is.left) waiting
    (Stopped (shard_of_call is.refused)) own is.begins_so is.goes_on
    (stop_walk setting count worker waiting is.refused is.left is.refuses is.leaves) (leaving_begins_none worker is.left)

module _ (verified : Verified) (options : Options) (plan : ℕ → ShardPlan) (count worker : ℕ) (journals : JournalsView) where
  abbrev IsIn : Sent → PassView → RunEnd → PassView → Type 0
  IsIn captured before end after = IsRunIn plan count (program_of verified options.shards) worker journals captured before end after

  unfoldable pub ending_of : (captured : Sent) (before : PassView) (end : RunEnd) (after : PassView) (run : IsIn captured before end after) →
      IsOfSystem verified options plan count worker journals captured before end after run → Ending
  ending_of captured before WasStopped after run of_system =
      ending_at_stop (setting_of verified options) worker (moment_of captured worker) captured.bytes.items plan count before after run.frame run.stop
      of_system
  ending_of captured before (HasExited steps fate) after run of_system = Exited run.verdict of_system.last.frame.bytes of_system.last.steps

  pub run_so : (captured : Sent) (before : PassView) (end : RunEnd) (after : PassView) (run : IsIn captured before end after) →
      (of_system : IsOfSystem verified options plan count worker journals captured before end after run) →
      IsRunOn (setting_of verified options) count worker (input_of worker (captured_of captured))
      (moves_of_run verified options plan count worker journals captured before end after run of_system)
      (ending_of captured before end after run of_system)
  unfolding ending_of
  run_so captured before WasStopped after run of_system =
      stopped_so (setting_of verified options) count worker plan (moment_of captured worker) captured.bytes.items before after run.frame run.stop refl
      of_system
  run_so captured before (HasExited steps fate) after run of_system =
      ran_so (setting_of verified options) count worker (moment_of captured worker) captured.bytes.items before after run.frame run.verdict run.steps refl
      of_system

  -- ---- all runs of a worker

  module _ (records : List Sent) where
    abbrev Placed : Type 0
    Placed = PlacedRun plan count (program_of verified options.shards) worker journals records

    abbrev AreOf : List Placed → Type 0
    AreOf runs = AreOfSystem verified options plan count worker journals records runs

    abbrev pub moves_so : (one : Placed) → IsOfSystem verified options plan count worker journals one.run.sent one.before one.ran.end one.after one.run.run →
        List Move
    moves_so one is = moves_of_run verified options plan count worker journals one.run.sent one.before one.ran.end one.after one.run.run is

    abbrev pub ending_so : (one : Placed) → IsOfSystem verified options plan count worker journals one.run.sent one.before one.ran.end one.after one.run.run →
        Ending
    ending_so one is = ending_of one.run.sent one.before one.ran.end one.after one.run.run is

    unfoldable pub endings_of : (runs : List Placed) → AreOf runs → List Ending
    endings_of [] are = []
    endings_of (one ∷ later) are = ending_so one are.0 ∷ endings_of later are.1

    unfoldable pub captured_in : List Placed → List Captured
    captured_in [] = []
    captured_in (one ∷ later) = captured_of one.run.sent ∷ captured_in later

    pub walk_of : (runs : List Placed) (are : AreOf runs) →
        Walk (setting_of verified options) count worker Idle (moves_of_runs verified options plan count worker journals records runs are)
        (endings_of runs are)
    unfolding endings_of
    walk_of [] are = record { steps = refl; ends_are = refl }
    walk_of (one ∷ later) are =
        let is = run_so one.run.sent one.before one.ran.end one.after one.run.run are.0 in
        then_walk (setting_of verified options) count worker (moves_so one are.0)
        (moves_of_runs verified options plan count worker journals records later are.1) Idle (ending_so one are.0 ∷ []) (endings_of later are.1) is.walk
        (walk_of later are.1)

    events_both : (first second : List Move) → events_of (first ++ second) ≡ events_of first ++ events_of second
    events_both [] second = refl
    events_both (move ∷ first) second = ap (λ (list : List SystemEvent). move.event ∷ list) (events_both first second)

    pub begun_in : (runs : List Placed) (are : AreOf runs) →
        begun_by worker (events_of (moves_of_runs verified options plan count worker journals records runs are))
        ≡ map (input_of worker) (captured_in runs)
    unfolding captured_in
    begun_in [] are = refl
    begun_in (one ∷ later) are =
        let first : List Move = moves_so one are.0 in
        let second : List Move = moves_of_runs verified options plan count worker journals records later are.1 in
        ap (begun_by worker) (events_both first second) ∙ then_begun worker (events_of first) (events_of second)
        ∙ ap (λ (list : List Input). list ++ begun_by worker (events_of second))
        (run_so one.run.sent one.before one.ran.end one.after one.run.run are.0).begun
        ∙ ap (λ (list : List Input). input_of worker (captured_of one.run.sent) ∷ list) (begun_in later are.1)
