-- The moves of each worker over a whole replay.
use Rattle.std.proofs.Common.{◌≡◌, ℕ, ◌<◌, ◌≤◌, Bool, true, false, nat_lt, List, [], ◌∷◌, ◌++◌, length, reverse, refl, sym, ◌∙◌, ap, subst, arith, append_assoc, append-nil}
use Rattle.std.specs.Prelude.{IsFalse}
use Rattle.std.specs.List.{AllByRecursion}
use Rattle.std.proofs.lemmas.Bool.Decides.{nat_tests}
use Rattle.std.proofs.lemmas.List.{reverse-append, reverse-reverse}
use Rattle.wire.specs.declared.records.Sent.{Sent}
use Rattle.semantics.specs.declared.call.Caller.TheVariants.{Worker}
use Rattle.semantics.specs.declared.call.Entry.{Entry}
use Rattle.semantics.specs.declared.options.Options.{Options}
use Rattle.semantics.specs.declared.plan.ShardPlan.{ShardPlan}
use Rattle.semantics.specs.declared.verdict.Verdict.{Verdict}
use Rattle.semantics.specs.CallerLaws.{own_entries}
use Rattle.semantics.specs.Reclamation.{is_worker}
use Rattle.semantics.specs.System.{Setting, WorkerState, Idle, run_over}
use Rattle.verifier.specs.Verified.{Verified}
use Rattle.wire.specs.FrameView.{FrameView}
use Rattle.machine.specs.declared.exit.Stop.{Stop}
use Rattle.machine.specs.declared.exit.Stop.TheVariants.{JournalFull}
use Rattle.machine.specs.declared.moment.Moment.{Moment}
use Rattle.machine.specs.Running.{program_of}
use Rattle.journals.specs.JournalsView.{JournalsView, entries_at}
use Rattle.shards.specs.CallerView.{CallerView}
use Rattle.shards.specs.declared.deeds.Deed.{Deed}
use Rattle.shards.specs.declared.deeds.OrderPart.TheVariants.{ByCaller}
use Rattle.shards.specs.Deeds.{deeds_of}
use Rattle.shards.specs.Passes.{PassView, own_at}
use Rattle.actors.specs.declared.runner.Ran.{Ran}
use Rattle.actors.specs.declared.runner.RunEnd.{RunEnd}
use Rattle.actors.specs.declared.runner.RunEnd.TheVariants.{Stopped, Exited}
use Rattle.actors.specs.Accounts.{runs_at}
use Rattle.actors.specs.Accounted.{IsWorkOf, runs_in_chain, runs_in_work}
use Rattle.actors.specs.RunsInOrder.{IsRunAt, IsChainOfRuns}
use Rattle.actors.specs.RunsOverShards.{IsRunIn}
use Rattle.actors.specs.Shares.{frames_of, share}
use Rattle.guarantees.specs.Steps.{Move, TurnedAway, AreSteps, running, begins, does, asks, beginning, leavings, entries_on, deeds_in}
use Rattle.guarantees.specs.SystemRuns.{setting_of, HaveGrown, HaveDone, RanInSystem, HasStoppedInSystem}
use Rattle.guarantees.specs.Merging.{is_refusal, NoneRefused}
use Rattle.guarantees.specs.RunsInList.{moment_of, IsOfSystem, AreOfSystem, moves_to_stop, moves_of_run, moves_of_runs}
use Rattle.guarantees.specs.ReplayMoves.{IsNotStopped, AreMovesOf, HasMoves}
use Rattle.actors.proofs.shared.DeedLemmas.{chosen_reversed}
use Rattle.guarantees.proofs.EventLemmas.{append_on, append_deeds}
use Rattle.actors.proofs.shared.EveryEntry.{all_both}
use Rattle.guarantees.proofs.OneWorker.{as_steps, run_refuses_none, leavings_refuse_none}

-- ---- moves from idle to idle, and what a pass has more after them

record Walks (setting : Setting) (count worker : ℕ) (before after : PassView) (moves : List Move) : Type 0 where
  steps : AreSteps setting count worker Idle moves Idle
  grown : HaveGrown count moves before after
  done : HaveDone worker moves before after

then_steps : (setting : Setting) (count worker : ℕ) (moves later : List Move) (before between after : WorkerState) →
    AreSteps setting count worker before moves between → AreSteps setting count worker between later after →
    AreSteps setting count worker before (moves ++ later) after
then_steps setting count worker [] later before between after steps more =
    subst (λ (state : WorkerState). AreSteps setting count worker state later after) (sym steps) more
then_steps setting count worker (move ∷ moves) later before between after steps more =
    (steps.0, steps.1, then_steps setting count worker moves later steps.0 between after steps.2 more)

walks_on : (setting : Setting) (count worker : ℕ) (before middle after : PassView) (first second : List Move) →
    Walks setting count worker before middle first → Walks setting count worker middle after second →
    Walks setting count worker before after (first ++ second)
walks_on setting count worker before middle after first second one two = record {
  steps = then_steps setting count worker first second Idle Idle Idle one.steps two.steps;
  grown = λ number within.
      two.grown number within
      ∙ ap (λ (own : List Entry). reverse (entries_on number second) ++ own) (one.grown number within)
      ∙ sym (append_assoc (reverse (entries_on number second)) (reverse (entries_on number first)) (own_at before number))
      ∙ ap (λ (own : List Entry). own ++ own_at before number) (sym (reverse-append (entries_on number first) (entries_on number second)))
      ∙ ap (λ (list : List Entry). reverse list ++ own_at before number) (sym (append_on number first second));
  done =
      two.done
      ∙ ap (λ (deeds : List Deed). reverse (deeds_in worker second) ++ deeds) one.done
      ∙ sym (append_assoc (reverse (deeds_in worker second)) (reverse (deeds_in worker first)) before.deeds)
      ∙ ap (λ (deeds : List Deed). deeds ++ before.deeds) (sym (reverse-append (deeds_in worker first) (deeds_in worker second)))
      ∙ ap (λ (list : List Deed). reverse list ++ before.deeds) (sym (append_deeds worker first second));
}

-- ---- one run

record RunMoves (setting : Setting) (count worker : ℕ) (before after : PassView) (end : RunEnd) : Type 0 where
  moves : List Move
  walks : Walks setting count worker before after moves
  met_none : IsNotStopped end → NoneRefused moves

run_moves : (setting : Setting) (count worker : ℕ) (moment : Moment) (frame : List ℕ) (before after : PassView) (sent : FrameView)
    (verdict : Verdict) (steps : ℕ) (end : RunEnd) → RanInSystem setting worker moment frame count before after verdict steps sent →
    RunMoves setting count worker before after end
run_moves setting count worker moment frame before after sent verdict steps end ran =
    let is = ran.of_system in
    let start = beginning frame moment.worker moment.now_ns in
    let ending : List Move = does worker ∷ leavings worker is.left in
    let moves : List Move = begins worker frame moment.now_ns moment.worker ∷ is.run ++ ending in
    record {
      moves = moves;
      walks = record {
        steps = (
          running start,
          is.begins_so,
          as_steps setting count worker is.run ending start is.ending Idle is.goes_on (run_over is.ending.entered, is.ends, is.leaves),
        );
        grown = λ number within. is.written number within
            ∙ ap (λ (list : List Entry). reverse list ++ own_at before number)
            (append_on number is.run (leavings worker is.left) ∙ sym (append_on number is.run ending));
        done = is.did
            ∙ ap (λ (list : List Deed). reverse list ++ before.deeds)
            (append_deeds worker is.run (leavings worker is.left) ∙ sym (append_deeds worker is.run ending));
      };
      met_none = λ _. (
        refl,
        all_both (λ (move : Move). IsFalse (is_refusal move.asked)) is.run ending
            (run_refuses_none setting count worker is.run start is.ending is.goes_on) (refl, leavings_refuse_none worker is.left),
      );
    }

stopped_moves : (setting : Setting) (count worker : ℕ) (plan : ℕ → ShardPlan) (moment : Moment) (frame : List ℕ) (before after : PassView)
    (kept_back : FrameView) (stop : Stop) → HasStoppedInSystem setting worker moment frame plan count before after kept_back stop →
    RunMoves setting count worker before after Stopped
stopped_moves setting count worker plan moment frame before after kept_back (JournalFull shard) stopped =
    let is = stopped.of_system in
    let start = beginning frame moment.worker moment.now_ns in
    let ending : List Move = asks worker (TurnedAway is.refused) ∷ leavings worker is.left in
    record {
      moves = begins worker frame moment.now_ns moment.worker ∷ is.run ++ ending;
      walks = record {
        steps = (
          running start,
          is.begins_so,
          as_steps setting count worker is.run ending start (record { state = stopped.waiting; entered = is.entered }) Idle is.goes_on
              (run_over is.entered, is.refuses, is.leaves),
        );
        grown = λ number within. is.written number within
            ∙ ap (λ (list : List Entry). reverse list ++ own_at before number)
            (append_on number is.run (leavings worker is.left) ∙ sym (append_on number is.run ending));
        done = is.did;
      };
      met_none = λ none. absurd none;
    }

stop_is : (setting : Setting) (count worker : ℕ) (plan : ℕ → ShardPlan) (moment : Moment) (frame : List ℕ) (before after : PassView)
    (kept_back : FrameView) (stop : Stop) → (stopped : HasStoppedInSystem setting worker moment frame plan count before after kept_back stop) →
    (stopped_moves setting count worker plan moment frame before after kept_back stop stopped).moves
    ≡ moves_to_stop setting worker moment frame plan count before after kept_back stop stopped
unfolding stopped_moves
stop_is setting count worker plan moment frame before after kept_back (JournalFull shard) stopped = refl

module _ (verified : Verified) (options : Options) (plan : ℕ → ShardPlan) (count worker : ℕ) (journals : JournalsView) where
  abbrev IsIn : Sent → PassView → RunEnd → PassView → Type 0
  IsIn captured before end after = IsRunIn plan count (program_of verified options.shards) worker journals captured before end after

  one_run : (captured : Sent) (before after : PassView) (end : RunEnd) (run : IsIn captured before end after) →
      IsOfSystem verified options plan count worker journals captured before end after run →
      RunMoves (setting_of verified options) count worker before after end
  one_run captured before after Stopped run of_system =
      stopped_moves (setting_of verified options) count worker plan (moment_of captured worker) captured.bytes.items before after run.frame run.stop of_system
  one_run captured before after (Exited steps fate) run of_system =
      run_moves (setting_of verified options) count worker (moment_of captured worker) captured.bytes.items before after run.frame run.verdict run.steps
      (Exited steps fate) of_system

  one_is : (captured : Sent) (before after : PassView) (end : RunEnd) (run : IsIn captured before end after) →
      (of_system : IsOfSystem verified options plan count worker journals captured before end after run) →
      (one_run captured before after end run of_system).moves
      ≡ moves_of_run verified options plan count worker journals captured before end after run of_system
  unfolding one_run run_moves
  one_is captured before after Stopped run of_system =
      stop_is (setting_of verified options) count worker plan (moment_of captured worker) captured.bytes.items before after run.frame run.stop of_system
  one_is captured before after (Exited steps fate) run of_system = refl

  pub run_did : (captured : Sent) (before after : PassView) (end : RunEnd) (run : IsIn captured before end after) →
      (of_system : IsOfSystem verified options plan count worker journals captured before end after run) →
      HaveDone worker (moves_of_run verified options plan count worker journals captured before end after run of_system) before after
  run_did captured before after end run of_system =
      subst (λ (moves : List Move). HaveDone worker moves before after) (one_is captured before after end run of_system)
      (one_run captured before after end run of_system).walks.done

  -- ---- all runs of a worker

  record AllMoves (runs : List Ran) (before after : PassView) : Type 0 where
    moves : List Move
    walks : Walks (setting_of verified options) count worker before after moves
    met_none : AllByRecursion (λ (ran : Ran). IsNotStopped ran.end) runs → NoneRefused moves

  module _ (records : List Sent) where
    abbrev IsOf : PassView → Ran → PassView → Type 0
    IsOf = IsRunAt (IsRunIn plan count (program_of verified options.shards) worker journals) records

    all_runs : (runs : List Ran) (before after : PassView) (chain : IsChainOfRuns IsOf before runs after) →
        AreOfSystem verified options plan count worker journals records (runs_in_chain IsOf before runs after chain) → AllMoves runs before after
    all_runs [] before after same are = record {
      moves = [];
      walks = record {
        steps = refl;
        grown = λ number within. ap (λ (pass : PassView). own_at pass number) (sym same);
        done = ap (λ (pass : PassView). pass.deeds) (sym same);
      };
      met_none = λ _. tt;
    }
    all_runs (ran ∷ later) before after chain are =
        let one = one_run chain.1.sent before chain.0 ran.end chain.1.run are.0 in
        let rest = all_runs later chain.0 after chain.2 are.1 in
        record {
          moves = one.moves ++ rest.moves;
          walks = walks_on (setting_of verified options) count worker before chain.0 after one.moves rest.moves one.walks rest.walks;
          met_none = λ none. all_both (λ (move : Move). IsFalse (is_refusal move.asked)) one.moves rest.moves (one.met_none none.0) (rest.met_none none.1);
        }

    all_are : (runs : List Ran) (before after : PassView) (chain : IsChainOfRuns IsOf before runs after) →
        (are : AreOfSystem verified options plan count worker journals records (runs_in_chain IsOf before runs after chain)) →
        (all_runs runs before after chain are).moves
        ≡ moves_of_runs verified options plan count worker journals records (runs_in_chain IsOf before runs after chain) are
    unfolding all_runs
    all_are [] before after chain are = refl
    all_are (ran ∷ later) before after chain are = λ i.
        one_is chain.1.sent before chain.0 ran.end chain.1.run are.0 i ++ all_are later chain.0 after chain.2 are.1 i

-- ---- what they wrote, beside the journals

module _ (verified : Verified) (options : Options) (plan : ℕ → ShardPlan) (count : ℕ) (records : List Sent) (runs : List (List Ran))
    (journals : JournalsView) (order : List Deed)
    (work : (worker : ℕ) → worker < options.workers →
    IsWorkOf (IsRunAt (IsRunIn plan count (program_of verified options.shards) worker journals) records)
    (share (frames_of records) options.workers worker (length records)) worker (runs_at runs worker) count journals order)
    (of_system : (worker : ℕ) (below : worker < options.workers) →
    AreOfSystem verified options plan count worker journals records (runs_in_work (work worker below))) where
  record IsMoved (worker : ℕ) : Type 0 where
    moves : List Move
    are : AreMovesOf (setting_of verified options) count worker (runs_at runs worker) journals order moves

  moved : (worker : ℕ) → worker < options.workers → IsMoved worker
  moved worker below =
      let did = work worker below in
      let all = all_runs verified options plan count worker journals records (runs_at runs worker) did.handled.before did.after did.handled.chain
      (of_system worker below) in
      record {
        moves = all.moves;
        are = record {
          steps = all.walks.steps;
          written = λ number within.
              let wrote : List Entry = entries_on number all.moves in
              let journal : List Entry = entries_at journals number in
              let none : own_at did.handled.before number ≡ [] = ap (λ (view : CallerView). view.own) (did.handled.is_new.nothing number) in
              let newest : reverse wrote ≡ own_entries (Worker worker) (reverse journal) =
              sym (append-nil (reverse wrote)) ∙ ap (λ (own : List Entry). reverse wrote ++ own) (sym none) ∙ sym (all.walks.grown number within)
              ∙ did.own number within in
              sym (reverse-reverse wrote) ∙ ap reverse (newest ∙ chosen_reversed (λ (entry : Entry). is_worker worker entry.who) journal)
              ∙ reverse-reverse (own_entries (Worker worker) journal);
          did =
              let done : List Deed = deeds_in worker all.moves in
              let own : List Deed = deeds_of (ByCaller (Worker worker)) order in
              let newest : reverse done ≡ own =
              sym (append-nil (reverse done)) ∙ ap (λ (deeds : List Deed). reverse done ++ deeds) (sym did.handled.is_new.idle)
              ∙ sym all.walks.done ∙ did.did in
              sym (reverse-reverse done) ∙ ap reverse newest;
          met_none = all.met_none;
        };
      }

  less : (worker : ℕ) → nat_lt worker options.workers ≡ true → worker < options.workers
  less worker is = grind (arith, nat_tests, is)

  chosen : (worker : ℕ) (test : Bool) → nat_lt worker options.workers ≡ test → List Move
  chosen worker true is = (moved worker (less worker is)).moves
  chosen worker false is = []

  chosen_are : (worker : ℕ) (test : Bool) → (is : nat_lt worker options.workers ≡ test) → worker < options.workers →
      AreMovesOf (setting_of verified options) count worker (runs_at runs worker) journals order (chosen worker test is)
  unfolding chosen moved
  chosen_are worker true is below = (moved worker (less worker is)).are
  chosen_are worker false is below = absurd (grind (arith, nat_tests, is, below))

  none_chosen : (worker : ℕ) (test : Bool) → (is : nat_lt worker options.workers ≡ test) → options.workers ≤ worker → chosen worker test is ≡ []
  unfolding chosen
  none_chosen worker true is past = absurd (let below = less worker is in omega (arith, below, past))
  none_chosen worker false is past = refl

  pub has_moves : HasMoves (setting_of verified options) count runs journals order
  has_moves = record {
    moves = λ worker. chosen worker (nat_lt worker options.workers) refl;
    of_worker = λ worker below. chosen_are worker (nat_lt worker options.workers) refl below;
    of_others = λ worker past. none_chosen worker (nat_lt worker options.workers) refl past;
  }

  -- these are those of its runs
  abbrev pub AreOfRuns : ℕ → List Move → Type 0
  AreOfRuns worker list =
      (below : worker < options.workers)
      × (list ≡ moves_of_runs verified options plan count worker journals records (runs_in_work (work worker below)) (of_system worker below))

  chosen_of : (worker : ℕ) (test : Bool) → (is : nat_lt worker options.workers ≡ test) → worker < options.workers →
      AreOfRuns worker (chosen worker test is)
  unfolding chosen moved
  chosen_of worker true is below =
      let did = work worker (less worker is) in (
        less worker is,
        all_are verified options plan count worker journals records (runs_at runs worker) did.handled.before did.after did.handled.chain
            (of_system worker (less worker is)),
      )
  chosen_of worker false is below = absurd (grind (arith, nat_tests, is, below))

  pub moves_are_of_runs : (worker : ℕ) → worker < options.workers → AreOfRuns worker (has_moves.moves worker)
  unfolding has_moves
  moves_are_of_runs worker below = chosen_of worker (nat_lt worker options.workers) refl below
