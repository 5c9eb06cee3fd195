-- The runs of a replay as runs of the system around its image.
use Rattle.std.proofs.Common.{◌≡◌, ℕ, ◌<◌, ◌≤◌, false, nat_lt, List, length, reverse, refl, sym, ◌∙◌, ap, subst, arith}
use Rattle.std.specs.List.{AllByRecursion}
use Rattle.std.proofs.lemmas.Bool.Decides.{nat_tests}
use Rattle.std.proofs.lemmas.List.{reverse-reverse}
use Rattle.wire.specs.FrameView.{FrameView}
use Rattle.wire.specs.declared.records.Sent.{Sent}
use Rattle.semantics.specs.declared.options.Options.{Options}
use Rattle.semantics.specs.declared.plan.ShardPlan.{ShardPlan}
use Rattle.semantics.specs.ShardPlan.{AreOptions}
use Rattle.semantics.specs.System.{IsInputFrame, input_frame}
use Rattle.semantics.specs.History.{IsLegalJournal}
use Rattle.semantics.specs.Safety.{IsSafeImage}
use Rattle.verifier.specs.Verified.{Verified}
use Rattle.machine.specs.declared.exit.Stop.{Stop}
use Rattle.machine.specs.declared.exit.Stop.TheVariants.{JournalFull}
use Rattle.machine.specs.Running.{program_of}
use Rattle.journals.specs.JournalsView.{JournalsView, entries_at}
use Rattle.shards.specs.declared.deeds.Deed.{Deed}
use Rattle.shards.specs.Deeds.{entries_made, shard_of_deed, AreMet}
use Rattle.shards.specs.Passes.{PassView}
use Rattle.shards.specs.SharedMaps.{ArePlans}
use Rattle.runs.specs.FrameRuns.{HasStopped}
use Rattle.actors.specs.declared.runner.RunEnd.{RunEnd}
use Rattle.actors.specs.declared.runner.RunEnd.TheVariants.{Stopped, Exited}
use Rattle.actors.specs.declared.runner.Ran.{Ran}
use Rattle.actors.specs.Accounts.{runs_at}
use Rattle.actors.specs.RunsInOrder.{IsRunAt}
use Rattle.actors.specs.Shares.{frames_of, frame_at, is_short}
use Rattle.control.specs.declared.command.Command.{Command}
use Rattle.actors.specs.declared.outcome.Outcome.{Outcome}
use Rattle.actors.specs.Accounted.{PlacedRun, runs_in_work, IsOrderOfJournals, IsAccounted}
use Rattle.actors.specs.RunsOverShards.{start_of, StopsFor, IsRunIn}
use Rattle.actors.specs.Captured.{IsCaptured}
use Rattle.guarantees.specs.SystemLaws.{RunsAreOfTheSystem, StoppedRunsAreOfTheSystem}
use Rattle.guarantees.specs.SystemRuns.{setting_of}
use Rattle.guarantees.specs.Merging.{IsOrderOfMoves, IsOneList}
use Rattle.guarantees.specs.ReplayMoves.{HasMoves}
use Rattle.guarantees.specs.RunsInList.{moment_of, IsOfSystem, AreOfSystem, moves_of_runs, AreOfAccounted}
use Rattle.actors.proofs.shared.RunLemmas.{all_in_chain, of_records}
use Rattle.actors.proofs.shared.DeedLemmas.{is_deed_by, chosen_reversed, made_reversed}
use Rattle.actors.proofs.shared.EveryEntry.{all_reverse}
use Rattle.guarantees.proofs.LegalEntries.{entry_is_step}
use Rattle.actors.proofs.shared.ShareOrder.{is_long, all_handed, record_of}
use Rattle.guarantees.proofs.ReplayMoves.{has_moves, moves_are_of_runs}
use Rattle.guarantees.proofs.SharedRuns.{ran_in_system, stopped_in_system}

-- ---- one run

was_stopped : (plan : ℕ → ShardPlan) (count worker : ℕ) (verified : Verified) (options : Options) (journals : JournalsView) (captured : Sent)
    (before after : PassView) (frame : FrameView) (stop : Stop) →
    StopsFor plan count (program_of verified options.shards) worker journals captured before after frame stop →
    HasStopped (program_of verified options.shards) (start_of captured worker) plan count worker before after frame stop
was_stopped plan count worker verified options journals captured before after frame (JournalFull shard) stops = stops.0

module _ (ran : RunsAreOfTheSystem) (stopped : StoppedRunsAreOfTheSystem) (verified : Verified) (options : Options) (few : options.workers ≤ 8)
    (plan : ℕ → ShardPlan) (count worker : ℕ) (below : worker < options.workers) (journals : JournalsView) (captured : Sent)
    (is : IsCaptured captured) (long : is_short captured.bytes.items ≡ false) (before after : PassView) where
  input : IsInputFrame captured.bytes.items
  input = record {
    least = (let test : nat_lt (length captured.bytes.items) 14 ≡ false = long in grind (arith, nat_tests));
    greatest = is.short;
    bytes = is.bytes;
  }

  early : worker < 8
  early = omega (arith, below, few)

  pub of_system : (end : RunEnd) (run : IsRunIn plan count (program_of verified options.shards) worker journals captured before end after) →
      IsOfSystem verified options plan count worker journals captured before end after run
  of_system Stopped run =
      stopped_in_system stopped verified options (moment_of captured worker) (input_frame captured.bytes.items) plan count worker before after
      run.frame run.stop below input refl is.time early
      (was_stopped plan count worker verified options journals captured before after run.frame run.stop run.run)
  of_system (Exited steps fate) run =
      ran_in_system ran verified options (moment_of captured worker) (input_frame captured.bytes.items) count worker before after run.verdict
      run.steps run.frame below input refl is.time early run.run

-- ---- all callers at once

order_of_moves : (verified : Verified) (options : Options) → AreOptions verified.maps options → (plan : ℕ → ShardPlan) (count : ℕ) →
    ArePlans verified.maps options count plan → (runs : List (List Ran)) (journals : JournalsView) →
    ((number : ℕ) → number < count → IsLegalJournal (plan number) (entries_at journals number)) → (order : List Deed) →
    IsOrderOfJournals plan count journals order → (moves : HasMoves (setting_of verified options) count runs journals order) →
    IsOrderOfMoves (setting_of verified options) plan count (λ number. entries_at journals number) moves.moves (reverse order)
order_of_moves verified options fit plan count plans runs journals legal order ordered moves = record {
  options = fit;
  count_is = plans.count_is;
  plans = plans.each;
  within = all_reverse (λ (deed : Deed). shard_of_deed deed < count) order ordered.within;
  journals = λ number below. made_reversed number order ∙ sym (ordered.journals_are number below);
  legal = legal;
  met = subst (AreMet plan) (sym (reverse-reverse order)) ordered.met;
  own = λ worker below. (moves.of_worker worker below).did ∙ sym (chosen_reversed (is_deed_by worker) order);
  steps = λ worker below. (moves.of_worker worker below).steps;
  of_others = moves.of_others;
}

-- what an account comes to, with the runs as runs of the image
module _ (ran : RunsAreOfTheSystem) (stopped : StoppedRunsAreOfTheSystem) (verified : Verified) (safe : IsSafeImage verified.maps verified.code)
    (script : List Command) (options : Options) (records : List Sent) (outcome : Outcome) (fit : AreOptions verified.maps options)
    (captured : AllByRecursion IsCaptured records) (accounted : IsAccounted (program_of verified options.shards) script options records outcome) where
  abbrev frames : List (List ℕ)
  frames = frames_of records

  -- the runs of the account are runs of the system
  pub are_of_system : (worker : ℕ) (below : worker < options.workers) →
      AreOfSystem verified options accounted.plan accounted.count worker outcome.journals records (runs_in_work (accounted.work worker below))
  are_of_system worker below =
      let work = accounted.work worker below in
      all_in_chain (IsRunAt (IsRunIn accounted.plan accounted.count (program_of verified options.shards) worker outcome.journals) records)
      (λ (one : Ran). is_short (frame_at frames one.number) ≡ false)
      (λ (one : PlacedRun accounted.plan accounted.count (program_of verified options.shards) worker outcome.journals records).
      IsOfSystem verified options accounted.plan accounted.count worker outcome.journals one.run.sent one.before one.ran.end one.after one.run.run)
      (λ one long.
      let known = record_of records one.ran.number one.run.sent one.run.known captured in
      of_system ran stopped verified options fit.at_most_eight accounted.plan accounted.count worker below outcome.journals one.run.sent known.0
      (ap is_short (sym known.1) ∙ long) one.before one.after one.ran.end one.run.run)
      work.handled.before (runs_at accounted.runs worker) work.after work.handled.chain
      (of_records (λ (number : ℕ). is_short (frame_at frames number) ≡ false) (runs_at accounted.runs worker)
      (subst (λ (list : List ℕ). AllByRecursion (λ (number : ℕ). is_short (frame_at frames number) ≡ false) list)
      (sym work.handled.records_are)
      (all_handed (λ (number : ℕ). is_short (frame_at frames number) ≡ false) frames options.workers worker (length records)
      (λ number. is_long frames options.workers worker number))))

  pub moves : HasMoves (setting_of verified options) accounted.count accounted.runs outcome.journals accounted.order
  moves = has_moves verified options accounted.plan accounted.count records accounted.runs outcome.journals accounted.order accounted.work are_of_system

  pub moves_of_work : (worker : ℕ) → worker < options.workers → (below : worker < options.workers)
      × (moves.moves worker
      ≡ moves_of_runs verified options accounted.plan accounted.count worker outcome.journals records (runs_in_work (accounted.work worker below))
      (are_of_system worker below))
  unfolding moves
  moves_of_work = moves_are_of_runs verified options accounted.plan accounted.count records accounted.runs outcome.journals accounted.order accounted.work
      are_of_system

  pub order_is : IsOrderOfMoves (setting_of verified options) accounted.plan accounted.count (λ number. entries_at outcome.journals number) moves.moves
      (reverse accounted.order)
  order_is = order_of_moves verified options fit accounted.plan accounted.count accounted.plans accounted.runs outcome.journals accounted.legal
      accounted.order accounted.ordered moves

  -- with this list of events
  abbrev pub of_accounted :
      (list : IsOneList (setting_of verified options) accounted.count (λ number. entries_at outcome.journals number) moves.moves
      (entries_made (reverse accounted.order))) → AreOfAccounted verified script options records outcome accounted list.events
  of_accounted list = record {
    own_place = λ number below earlier later entry place. entry_is_step (accounted.plan number) earlier later entry
        (subst (IsLegalJournal (accounted.plan number)) place (accounted.legal number below));
    of_system = are_of_system;
    moves = moves;
    of_runs = moves_of_work;
    list = list;
    are = refl;
  }
