-- The list of events of a replay that was made turn by turn: the parts of its order, each with the events of its turn.
use Rattle.std.proofs.Common.{⊎_elim, ◌≡◌, ◌≢◌, ℕ, zero, suc, ◌+◌, ◌<◌, ◌≤◌, ◌==◌, ◌&&◌, not, nat_lt, Bool, true, false, cond, List, [], ◌∷◌, ◌++◌, reverse, take, drop, Option, Some, None, refl, sym, ◌∙◌, ap, subst, arith, eq-eqb, ne_eqb, append_assoc}
use Rattle.std.specs.Prelude.{map, slice_get, IfSome, MatchBool, if◌then◌else◌}
use Rattle.std.specs.List.{AllByRecursion, flat_map}
use Rattle.std.proofs.lemmas.Bool.{cases_eq, cases_lt}
use Rattle.std.proofs.lemmas.List.{map-append}
use Rattle.std.proofs.lemmas.Bool.Decides.{nat_tests}
use Rattle.wire.specs.declared.records.Sent.{Sent}
use Rattle.semantics.specs.declared.call.Call.{Call}
use Rattle.semantics.specs.declared.call.Caller.TheVariants.{Controller, Reclaimer}
use Rattle.semantics.specs.declared.call.Entry.{Entry}
use Rattle.semantics.specs.declared.options.Options.{Options}
use Rattle.semantics.specs.declared.plan.ShardPlan.{ShardPlan}
use Rattle.semantics.specs.Events.{Ending}
use Rattle.semantics.specs.Replay.{Asked, input_of, keyed_shards}
use Rattle.semantics.specs.Safety.{IsSafeImage}
use Rattle.semantics.specs.ShardPlan.{AreOptions}
use Rattle.semantics.specs.System.{Setting, SystemEvent, SystemState, Idle, Controls, Reclaims, worker_state, opening_system}
use Rattle.verifier.specs.Verified.{Verified}
use Rattle.machine.specs.Running.{program_of}
use Rattle.journals.specs.JournalsView.{entries_at}
use Rattle.shards.specs.declared.deeds.Deed.{Deed}
use Rattle.shards.specs.Deeds.{shard_of_deed, made_on, entries_made, AreMet, AreDeedsWithin}
use Rattle.control.specs.Controlling.{opened_controller}
use Rattle.control.specs.declared.command.Command.{Command}
use Rattle.control.specs.MapUpdates.{UpdateBytes}
use Rattle.control.specs.ScriptText.{CommandFits}
use Rattle.actors.specs.declared.outcome.Outcome.{Outcome}
use Rattle.actors.specs.Accounted.{runs_in_work, IsAccounted}
use Rattle.actors.specs.Accounts.{runs_at}
use Rattle.actors.specs.Actors.{numbers_from}
use Rattle.actors.specs.Captured.{IsCaptured}
use Rattle.actors.specs.Commands.{AnsweredUpdate, CommandDone, made_deeds, stop_deeds, command_deeds}
use Rattle.actors.specs.Parts.{first_commands}
use Rattle.actors.specs.Rounds.{keyed_below}
use Rattle.actors.specs.Shares.{frames_of, frame_at, is_short, is_handed, worker_of_frame, captured_of}
use Rattle.guarantees.specs.InParts.{Part, ByController, ByReclaimer, ByWorker, call_of_deed, events_of_part, deeds_in_parts, events_in_parts, IsOfCaller, AreParts, IsOrderInParts, AreIdleBetween}
use Rattle.guarantees.specs.Merging.{AreWrittenInOrder, events_of}
use Rattle.guarantees.specs.RunsInList.{AreOfSystem}
use Rattle.guarantees.specs.ReplayOf.{command_calls, asked_of}
use Rattle.guarantees.specs.Steps.{Move}
use Rattle.guarantees.specs.SystemLaws.{RunsAreOfTheSystem, StoppedRunsAreOfTheSystem}
use Rattle.guarantees.specs.SystemRuns.{setting_of}
use Rattle.guarantees.specs.TurnByTurn.{Turn, TheCommand, TheRecord, TheRound, IsWholeRun, AreEventsOfTurn, AreEventsOfTurns, events_of_updates, IsTurnByTurn, TurnDeeds, turns_of, IsTurnDone, AreDoneInTurns, HeadlineInTurns, ReplaysInTurnsAreListed}
use Rattle.actors.proofs.shared.PutLemmas.{worker_below}
use Rattle.guarantees.proofs.DeedAnswers.{made_calls, command_calls_are, round_is, round_own, keyed_within, keyed_are}
use Rattle.guarantees.proofs.EndLemmas.{ends_in}
use Rattle.actors.proofs.shared.EveryEntry.{all_both}
use Rattle.guarantees.proofs.HeadlineRuns.{moves, order_is}
use Rattle.guarantees.proofs.AfterDeeds.{put, put_there, put_other}
use Rattle.guarantees.proofs.Heard.{heard, answer_of_deed}
use Rattle.guarantees.proofs.OneReplay as whole
use Rattle.guarantees.proofs.OneReplay.{map_both, ends_if, ends}
use Rattle.actors.proofs.shared.ShareOrder.{record_of}
use Rattle.guarantees.proofs.MergeEvents.{lead}
use Rattle.guarantees.proofs.PartEvents.{ends_in_parts, played, list_in_parts}
use Rattle.guarantees.proofs.PartLists.{moves_by, filtered, are_heard}
use Rattle.guarantees.proofs.PlacedRuns.{OneRun, moves_in, ends_among, IsRunOn, AreTaken, runs_of, moves_are, ends_are, runs_are, taken_are}
use Rattle.guarantees.proofs.SizedUpdates.{IsAskable, commands_may_look}

-- ---- lists

at_number : {A : Type 0} (P : A → Type 0) (xs : List A) (number : ℕ) (x : A) → AllByRecursion P xs → slice_get xs number ≡ Some x → P x
at_number P [] number x all known = absurd cc
at_number P (first ∷ xs) zero x all known = subst P (cc known) all.0
at_number P (first ∷ xs) (suc number) x all known = at_number P xs number x all.1 known

mapped_at : {A B : Type 0} (f : A → B) (xs : List A) (number : ℕ) (x : A) → slice_get xs number ≡ Some x → slice_get (map f xs) number ≡ Some (f x)
mapped_at f [] number x known = absurd cc
mapped_at {B = B} f (first ∷ xs) zero x known = let same : first ≡ x = cc known in ap (λ y. Some (f y)) same
mapped_at f (first ∷ xs) (suc number) x known = mapped_at f xs number x known

same_at : {A : Type 0} (xs : List A) (number : ℕ) (one other : A) → slice_get xs number ≡ Some one → slice_get xs number ≡ Some other → one ≡ other
same_at xs number one other known also = cc (known, also)

-- the first of those that are left, and the others
dropped_at : {A : Type 0} (xs : List A) (number count : ℕ) (x : A) → slice_get xs number ≡ Some x →
    take (suc count) (drop number xs) ≡ x ∷ take count (drop (suc number) xs)
dropped_at [] number count x known = absurd cc
dropped_at {A = A} (first ∷ xs) zero count x known =
    let same : first ≡ x = cc known in ap (λ (y : A). y ∷ take count xs) same
dropped_at (first ∷ xs) (suc number) count x known = dropped_at xs number count x known

map_reclaims : (deeds : List Deed) → map (λ (deed : Deed). Reclaims (shard_of_deed deed)) deeds ≡ map (λ (shard : ℕ). Reclaims shard) (map shard_of_deed deeds)
map_reclaims [] = refl
map_reclaims (deed ∷ deeds) = ap (λ (list : List SystemEvent). Reclaims (shard_of_deed deed) ∷ list) (map_reclaims deeds)

module _ (ran : RunsAreOfTheSystem) (stopped : StoppedRunsAreOfTheSystem) (verified : Verified) (safe : IsSafeImage verified.maps verified.code)
    (script : List Command) (options : Options) (records : List Sent) (outcome : Outcome) (fit : AreOptions verified.maps options)
    (captured : AllByRecursion IsCaptured records) (sized : AllByRecursion CommandFits script)
    (accounted : IsAccounted (program_of verified options.shards) script options records outcome) where
  abbrev setting : Setting
  setting = setting_of verified options

  abbrev plan : ℕ → ShardPlan
  plan = accounted.plan

  abbrev count : ℕ
  count = accounted.count

  abbrev frames : List (List ℕ)
  frames = frames_of records

  abbrev done : List CommandDone
  done = accounted.commands.done

  abbrev asked : Asked
  asked = asked_of verified script options records outcome done

  -- ---- commands

  made_own : (made : List AnsweredUpdate) → AllByRecursion (IsOfCaller plan Controller) (made_deeds verified.maps options made)
  made_own [] = tt
  made_own (one ∷ made) = (refl, made_own made)

  stop_own : (update : Option UpdateBytes) → IfSome update (IsAskable plan verified.maps options) →
      AllByRecursion (IsOfCaller plan Controller) (stop_deeds verified.maps options update)
  stop_own None may = tt
  stop_own (Some update) may = ((refl, may), tt)

  command_own : (one : CommandDone) → IfSome one.stopped (IsAskable plan verified.maps options) →
      AllByRecursion (IsOfCaller plan Controller) (command_deeds verified.maps options one)
  command_own one may =
      all_both (IsOfCaller plan Controller) (made_deeds verified.maps options one.made) (stop_deeds verified.maps options one.stopped) (made_own one.made)
      (stop_own one.stopped may)

  may_look : AllByRecursion (λ (one : CommandDone). IfSome one.stopped (IsAskable plan verified.maps options)) done
  may_look =
      let by = accounted.commands.of_script in
      commands_may_look plan verified.maps options count by.size accounted.plans fit script sized by.serves by.noted done by.are_noted
      (opened_controller by.size) by.state by.are_done refl

  -- ---- a part of a turn

  abbrev Done : Turn → List Deed → Type 0
  Done turn deeds = IsTurnDone plan verified.maps options count records done turn deeds

  command_part : (number : ℕ) (deeds : List Deed) → Done (TheCommand number) deeds →
      AllByRecursion (IsOfCaller plan Controller) deeds × AreEventsOfTurn setting asked (TheCommand number) (events_of_part (ByController deeds))
  command_part number deeds (one, known, are) = (
    subst (λ (list : List Deed). AllByRecursion (IsOfCaller plan Controller) list) (sym are)
        (command_own one (at_number (λ (each : CommandDone). IfSome each.stopped (IsAskable plan verified.maps options)) done number one may_look known)),
    (
      command_calls verified.maps options one,
      mapped_at (command_calls verified.maps options) done number one known,
      ap (λ (list : List Deed). events_of_part (ByController list)) are ∙ sym (map_both (command_deeds verified.maps options one))
          ∙ ap (λ (calls : List Call). map (λ (call : Call). Controls call) calls) (command_calls_are verified.maps options one),
    ),
  )

  round_part : (deeds : List Deed) → Done TheRound deeds →
      AllByRecursion (IsOfCaller plan Reclaimer) deeds × AreEventsOfTurn setting asked TheRound (events_of_part (ByReclaimer deeds))
  round_part deeds are =
      let within = keyed_within setting plan count accounted.plans.each count (omega arith) in (
        round_own setting plan count accounted.plans.each (keyed_below plan count) deeds within are,
        map_reclaims deeds
            ∙ ap (λ (shards : List ℕ). map (λ (shard : ℕ). Reclaims shard) shards)
            ((round_is setting plan count accounted.plans.each (keyed_below plan count) deeds within are).shards_are
            ∙ keyed_are setting plan count accounted.plans.each count (omega arith) ∙ ap (keyed_shards setting) accounted.plans.count_is),
      )

  -- ---- the runs placed in their turns

  abbrev AreTurnsOf : List TurnDeeds → List Part → Type 0
  AreTurnsOf [] [] = Unit {0}
  AreTurnsOf [] (part ∷ parts) = ⊥
  AreTurnsOf (one ∷ todo) [] = ⊥
  AreTurnsOf (one ∷ todo) (part ∷ parts) = AreEventsOfTurn setting asked one.turn (events_of_part part) × AreTurnsOf todo parts

  record Placed (todo : List TurnDeeds) (rest : ℕ → List OneRun) : Type 0 where
    parts : List Part
    are : AreParts setting plan count parts
    deeds_are : deeds_in_parts parts ≡ flat_map (λ (one : TurnDeeds). one.deeds) todo
    moves_are_by : (worker : ℕ) → moves_by worker parts ≡ moves_in (rest worker)
    ends_are_by : (worker : ℕ) → ends_in_parts setting plan count worker parts are ≡ ends_among (rest worker)
    each : AreTurnsOf todo parts

  -- what is left of the runs is what is left to do
  record Left (todo : List TurnDeeds) (rest : ℕ → List OneRun) : Type 0 where
    dones : AllByRecursion (λ (one : TurnDeeds). Done one.turn one.deeds) todo
    taken : (worker : ℕ) → worker < options.workers → AreTaken worker (rest worker) (turns_of frames options.workers worker todo)
    good : (worker : ℕ) → worker < options.workers → AllByRecursion (IsRunOn setting count records worker) (rest worker)
    none : (worker : ℕ) → options.workers ≤ worker → rest worker ≡ []

  none_taken : (worker : ℕ) (runs : List OneRun) → AreTaken worker runs [] → runs ≡ []
  none_taken worker [] taken = refl
  none_taken worker (one ∷ runs) taken = absurd taken

  place_nothing : (rest : ℕ → List OneRun) → Left [] rest → Placed [] rest
  place_nothing rest left =
      let empty : (worker : ℕ) → rest worker ≡ [] =
      λ worker. ⊎_elim (λ (below : worker < options.workers). none_taken worker (rest worker) (left.taken worker below)) (left.none worker)
      (cases_lt worker options.workers) in
      record {
        parts = [];
        are = tt;
        deeds_are = refl;
        moves_are_by = λ worker. ap moves_in (sym (empty worker));
        ends_are_by = λ worker. ap ends_among (sym (empty worker));
        each = tt;
      }

  abbrev PlacesAll : List TurnDeeds → Type 0
  PlacesAll todo = (rest : ℕ → List OneRun) → Left todo rest → Placed todo rest

  -- a turn without a run
  place_calls : (turn : Turn) (deeds : List Deed) (todo : List TurnDeeds) (rest : ℕ → List OneRun) → AllByRecursion (IsOfCaller plan Controller) deeds →
      AreEventsOfTurn setting asked turn (events_of_part (ByController deeds)) → Placed todo rest → Placed (record { turn = turn; deeds = deeds } ∷ todo) rest
  place_calls turn deeds todo rest own events placed = record {
    parts = ByController deeds ∷ placed.parts;
    are = (own, placed.are);
    deeds_are = ap (λ (list : List Deed). deeds ++ list) placed.deeds_are;
    moves_are_by = placed.moves_are_by;
    ends_are_by = placed.ends_are_by;
    each = (events, placed.each);
  }

  place_round : (deeds : List Deed) (todo : List TurnDeeds) (rest : ℕ → List OneRun) → AllByRecursion (IsOfCaller plan Reclaimer) deeds →
      AreEventsOfTurn setting asked TheRound (events_of_part (ByReclaimer deeds)) → Placed todo rest →
      Placed (record { turn = TheRound; deeds = deeds } ∷ todo) rest
  place_round deeds todo rest own events placed = record {
    parts = ByReclaimer deeds ∷ placed.parts;
    are = (own, placed.are);
    deeds_are = ap (λ (list : List Deed). deeds ++ list) placed.deeds_are;
    moves_are_by = placed.moves_are_by;
    ends_are_by = placed.ends_are_by;
    each = (events, placed.each);
  }

  same_record : (one other : ℕ) → TheRecord one ≡ TheRecord other → one ≡ other
  same_record one other same = cc

  -- the turn of a record: a short one, or one that its worker runs
  module _ (number : ℕ) (deeds : List Deed) (todo : List TurnDeeds) (rest : ℕ → List OneRun) (one : Sent) (known : slice_get records number ≡ Some one)
      (onward : PlacesAll todo) (left : Left (record { turn = TheRecord number; deeds = deeds } ∷ todo) rest) where
    abbrev here : TurnDeeds
    here = record { turn = TheRecord number; deeds = deeds }

    abbrev own : ℕ
    own = worker_of_frame one.bytes.items options.workers

    there : frame_at frames number ≡ one.bytes.items
    there = (record_of records number one known captured).1

    handed_by : (worker : ℕ) (short : Bool) → is_short one.bytes.items ≡ short → is_handed frames options.workers worker number ≡ (not short && (own == worker))
    handed_by worker short is =
        ap (λ (bytes : List ℕ). not (is_short bytes) && (worker_of_frame bytes options.workers == worker)) there
        ∙ ap (λ (test : Bool). not test && (own == worker)) is

    turns_if : (worker : ℕ) (test : Bool) → is_handed frames options.workers worker number ≡ test →
        turns_of frames options.workers worker (here ∷ todo)
        ≡ cond test (here ∷ turns_of frames options.workers worker todo) (turns_of frames options.workers worker todo)
    turns_if worker test is =
        ap (λ (handed : Bool). cond handed (here ∷ turns_of frames options.workers worker todo) (turns_of frames options.workers worker todo)) is

    short_events : is_short one.bytes.items ≡ true → AreEventsOfTurn setting asked (TheRecord number) []
    short_events is = (
      captured_of one,
      mapped_at captured_of records number one known,
      subst (λ (test : Bool). MatchBool test (◌≡◌ {A = List SystemEvent} [] []) (IsWholeRun own (input_of own (captured_of one)) [])) (sym is) refl,
    )

    place_short : is_short one.bytes.items ≡ true → deeds ≡ [] → Placed (here ∷ todo) rest
    place_short is nothing =
        subst (λ (list : List Deed). Placed (record { turn = TheRecord number; deeds = list } ∷ todo) rest) (sym nothing)
        (place_calls (TheRecord number) [] todo rest tt (short_events is)
        (onward rest (record {
          dones = left.dones.1;
          taken = λ worker below. subst (AreTaken worker (rest worker)) (turns_if worker false (handed_by worker true is)) (left.taken worker below);
          good = left.good;
          none = left.none;
        })))

    module _ (is : is_short one.bytes.items ≡ false) where
      below_own : own < options.workers
      below_own = worker_below one.bytes.items options.workers fit.some_worker

      taken_own : AreTaken own (rest own) (here ∷ turns_of frames options.workers own todo)
      taken_own = subst (AreTaken own (rest own)) (turns_if own true (handed_by own false is ∙ eq-eqb own own refl)) (left.taken own below_own)

      module _ (run : OneRun) (more : List OneRun) (at : rest own ≡ run ∷ more)
          (taken : AreTaken own (run ∷ more) (here ∷ turns_of frames options.workers own todo))
          (good : AllByRecursion (IsRunOn setting count records own) (run ∷ more)) where
        abbrev later : ℕ → List OneRun
        later = put own more rest

        left_later : Left todo later
        left_later = record {
          dones = left.dones.1;
          taken = λ worker below. ⊎_elim
              (λ (same : worker ≡ own). subst (λ (w : ℕ). AreTaken w (later w) (turns_of frames options.workers w todo)) (sym same)
              (subst (λ (list : List OneRun). AreTaken own list (turns_of frames options.workers own todo)) (sym (put_there own more rest)) taken.2))
              (λ (apart : worker ≢ own).
              subst (λ (list : List OneRun). AreTaken worker list (turns_of frames options.workers worker todo)) (sym (put_other own worker more rest apart))
              (subst (AreTaken worker (rest worker))
              (turns_if worker false (handed_by worker false is ∙ ne_eqb own worker (λ also. apart (sym also)))) (left.taken worker below)))
              (cases_eq worker own);
          good = λ worker below. ⊎_elim
              (λ (same : worker ≡ own). subst (λ (w : ℕ). AllByRecursion (IsRunOn setting count records w) (later w)) (sym same)
              (subst (AllByRecursion (IsRunOn setting count records own)) (sym (put_there own more rest)) good.1))
              (λ (apart : worker ≢ own).
              subst (AllByRecursion (IsRunOn setting count records worker)) (sym (put_other own worker more rest apart)) (left.good worker below))
              (cases_eq worker own);
          none = λ worker past. put_other own worker more rest (λ same. let below = below_own in omega (arith, same, past, below)) ∙ left.none worker past;
        }

        placed : Placed todo later
        placed = onward later left_later

        same_sent : good.0.sent ≡ one
        same_sent =
            let same = same_record number run.number taken.0 in
            same_at records number good.0.sent one (subst (λ (n : ℕ). slice_get records n ≡ Some good.0.sent) (sym same) good.0.known) known

        run_events : AreEventsOfTurn setting asked (TheRecord number) (events_of run.moves)
        run_events = (
          captured_of one,
          mapped_at captured_of records number one known,
          subst (λ (test : Bool). MatchBool test (events_of run.moves ≡ []) (IsWholeRun own (input_of own (captured_of one)) (events_of run.moves))) (sym is)
              (subst (λ (sent : Sent). IsWholeRun own (input_of own (captured_of sent)) (events_of run.moves)) same_sent good.0.whole),
        )

        abbrev ends_now : List Ending
        ends_now = ends_in setting count own Idle run.moves Idle good.0.walk.steps

        place_run : Placed (here ∷ todo) rest
        place_run = record {
          parts = ByWorker own run.moves ∷ placed.parts;
          are = ((below_own, good.0.walk.steps), placed.are);
          deeds_are = λ i. taken.1 i ++ placed.deeds_are i;
          moves_are_by = λ worker. ⊎_elim
              (λ (same : worker ≡ own).
              subst (λ (w : ℕ). (if own == w then run.moves else []) ++ moves_by w placed.parts ≡ moves_in (rest w)) (sym same)
              (ap (λ (test : Bool). (if test then run.moves else []) ++ moves_by own placed.parts) (eq-eqb own own refl)
              ∙ ap (λ (list : List Move). run.moves ++ list) (placed.moves_are_by own ∙ ap moves_in (put_there own more rest)) ∙ ap moves_in (sym at)))
              (λ (apart : worker ≢ own).
              ap (λ (test : Bool). (if test then run.moves else []) ++ moves_by worker placed.parts) (ne_eqb own worker (λ also. apart (sym also)))
              ∙ placed.moves_are_by worker ∙ ap moves_in (put_other own worker more rest apart))
              (cases_eq worker own);
          ends_are_by = λ worker. ⊎_elim
              (λ (same : worker ≡ own).
              subst (λ (w : ℕ). (if own == w then ends_now else []) ++ ends_in_parts setting plan count w placed.parts placed.are ≡ ends_among (rest w))
              (sym same)
              (ap (λ (test : Bool). (if test then ends_now else []) ++ ends_in_parts setting plan count own placed.parts placed.are) (eq-eqb own own refl)
              ∙ (λ i. good.0.walk.ends_are i ++ (placed.ends_are_by own ∙ ap ends_among (put_there own more rest)) i) ∙ ap ends_among (sym at)))
              (λ (apart : worker ≢ own).
              ap (λ (test : Bool). (if test then ends_now else []) ++ ends_in_parts setting plan count worker placed.parts placed.are)
              (ne_eqb own worker (λ also. apart (sym also)))
              ∙ placed.ends_are_by worker ∙ ap ends_among (put_other own worker more rest apart))
              (cases_eq worker own);
          each = (run_events, placed.each);
        }

      place_long : (list : List OneRun) → rest own ≡ list → AreTaken own list (here ∷ turns_of frames options.workers own todo) →
          AllByRecursion (IsRunOn setting count records own) list → Placed (here ∷ todo) rest
      place_long [] at taken good = absurd taken
      place_long (run ∷ more) at taken good = place_run run more at taken good

    place_record : (short : Bool) → is_short one.bytes.items ≡ short → (is_short one.bytes.items ≡ true → deeds ≡ []) → Placed (here ∷ todo) rest
    place_record true is nothing = place_short is (nothing is)
    place_record false is nothing = place_long is (rest own) refl (taken_own is) (left.good own (below_own is))

  by_turn : (turn : Turn) (deeds : List Deed) (todo : List TurnDeeds) (rest : ℕ → List OneRun) → PlacesAll todo →
      Left (record { turn = turn; deeds = deeds } ∷ todo) rest → Placed (record { turn = turn; deeds = deeds } ∷ todo) rest
  by_turn (TheCommand number) deeds todo rest onward left =
      let part = command_part number deeds left.dones.0 in
      place_calls (TheCommand number) deeds todo rest part.0 part.1
      (onward rest (record { dones = left.dones.1; taken = left.taken; good = left.good; none = left.none }))
  by_turn TheRound deeds todo rest onward left =
      let part = round_part deeds left.dones.0 in
      place_round deeds todo rest part.0 part.1
      (onward rest (record { dones = left.dones.1; taken = left.taken; good = left.good; none = left.none }))
  by_turn (TheRecord number) deeds todo rest onward left =
      let is = left.dones.0 in
      place_record number deeds todo rest is.0 is.1 onward left (is_short is.0.bytes.items) refl is.2

  place : (todo : List TurnDeeds) → PlacesAll todo
  place [] rest left = place_nothing rest left
  place (one ∷ todo) rest left = by_turn one.turn one.deeds todo rest (place todo) left

  -- ---- the runs of the account

  abbrev own_below : (worker : ℕ) → nat_lt worker options.workers ≡ true → worker < options.workers
  own_below worker is = (whole.own_moves ran stopped verified safe script options records outcome fit captured sized accounted worker is).0

  abbrev of_system : (worker : ℕ) (below : worker < options.workers) →
      AreOfSystem verified options plan count worker outcome.journals records (runs_in_work (accounted.work worker below))
  of_system = whole.of_system ran stopped verified safe script options records outcome fit captured sized accounted

  rest_if : (worker : ℕ) (test : Bool) → nat_lt worker options.workers ≡ test → List OneRun
  rest_if worker true is =
      let own = own_below worker is in
      runs_of verified options plan count worker outcome.journals records (runs_in_work (accounted.work worker own)) (of_system worker own)
  rest_if worker false is = []

  rest : ℕ → List OneRun
  rest worker = rest_if worker (nat_lt worker options.workers) refl

  good_if : (worker : ℕ) (test : Bool) → (is : nat_lt worker options.workers ≡ test) → AllByRecursion (IsRunOn setting count records worker) (rest_if worker test is)
  unfolding rest_if
  good_if worker true is =
      let own = own_below worker is in
      runs_are verified options plan count worker outcome.journals records (runs_in_work (accounted.work worker own)) (of_system worker own)
  good_if worker false is = tt

  moves_if : (worker : ℕ) (test : Bool) → (is : nat_lt worker options.workers ≡ test) →
      moves_in (rest_if worker test is) ≡ whole.moved ran stopped verified safe script options records outcome fit captured sized accounted worker
  unfolding rest_if
  moves_if worker true is =
      let own = whole.own_moves ran stopped verified safe script options records outcome fit captured sized accounted worker is in
      moves_are verified options plan count worker outcome.journals records (runs_in_work (accounted.work worker own.0)) (of_system worker own.0)
      ∙ sym own.1
  moves_if worker false is =
      let past : options.workers ≤ worker = grind (arith, nat_tests, is) in
      sym ((moves ran stopped verified safe script options records outcome fit captured accounted).of_others worker past)

  moves_agree : (worker : ℕ) → moves_in (rest worker) ≡ whole.moved ran stopped verified safe script options records outcome fit captured sized accounted worker
  unfolding rest
  moves_agree worker = moves_if worker (nat_lt worker options.workers) refl

  ends_agree_if : (worker : ℕ) (test : Bool) → (is : nat_lt worker options.workers ≡ test) →
      ends_among (rest_if worker test is) ≡ ends_if ran stopped verified safe script options records outcome fit captured sized accounted worker test is
  unfolding rest_if ends_if
  ends_agree_if worker true is =
      let own = own_below worker is in
      ends_are verified options plan count worker outcome.journals records (runs_in_work (accounted.work worker own)) (of_system worker own)
  ends_agree_if worker false is = refl

  ends_agree : (worker : ℕ) → ends_among (rest worker) ≡ ends ran stopped verified safe script options records outcome fit captured sized accounted worker
  unfolding rest ends
  ends_agree worker = ends_agree_if worker (nat_lt worker options.workers) refl

  none_if : (worker : ℕ) (test : Bool) → (is : nat_lt worker options.workers ≡ test) → options.workers ≤ worker → rest_if worker test is ≡ []
  unfolding rest_if
  none_if worker true is past = absurd (grind (arith, nat_tests, is, past))
  none_if worker false is past = refl

  -- ---- the turns

  module _ (turns : List Turn) (given : AreDoneInTurns (program_of verified options.shards) script options records outcome accounted turns) where
    taken_if : (worker : ℕ) (test : Bool) → (is : nat_lt worker options.workers ≡ test) → worker < options.workers →
        AreTaken worker (rest_if worker test is) (turns_of frames options.workers worker given.done)
    unfolding rest_if
    taken_if worker true is below =
        let own = own_below worker is in
        let did = accounted.work worker own in
        taken_are verified options plan count worker outcome.journals records did.handled.before (runs_at accounted.runs worker) did.after
        did.handled.chain (of_system worker own) (turns_of frames options.workers worker given.done) (given.of_runs worker own)
    taken_if worker false is below = absurd (grind (arith, nat_tests, is, below))

    left : Left given.done rest
    unfolding rest
    left = record {
      dones = given.each;
      taken = λ worker. taken_if worker (nat_lt worker options.workers) refl;
      good = λ worker below. good_if worker (nat_lt worker options.workers) refl;
      none = λ worker. none_if worker (nat_lt worker options.workers) refl;
    }

    abbrev all_placed : Placed given.done rest
    all_placed = place given.done rest left

    abbrev made : List AnsweredUpdate
    made = whole.made ran stopped verified safe script options records outcome fit captured sized accounted

    abbrev first_part : Part
    first_part = ByController (made_deeds verified.maps options made)

    abbrev parts : List Part
    parts = first_part ∷ all_placed.parts

    deeds_whole : deeds_in_parts parts ≡ reverse accounted.order
    deeds_whole = ap (λ (list : List Deed). made_deeds verified.maps options made ++ list) all_placed.deeds_are ∙ sym given.order_is

    abbrev journal : ℕ → List Entry
    journal number = entries_at outcome.journals number

    abbrev in_parts : IsOrderInParts setting plan count journal parts
    in_parts =
        let order = order_is ran stopped verified safe script options records outcome fit captured accounted in
        record {
          options = fit;
          count_is = order.count_is;
          plans = order.plans;
          within = subst (AreDeedsWithin count) (sym deeds_whole) order.within;
          journals = λ number below. ap (made_on number) deeds_whole ∙ order.journals number below;
          legal = order.legal;
          met = subst (λ (list : List Deed). AreMet plan (reverse list)) (sym deeds_whole) order.met;
          are_parts = (made_own made, all_placed.are);
        }

    abbrev events : List SystemEvent
    events = events_in_parts parts

    abbrev listed : whole.IsListed ran stopped verified safe script options records outcome fit captured sized accounted
    listed =
        let all = played setting plan count journal parts in_parts in
        let list = list_in_parts setting plan count journal parts in_parts in
        let are = are_heard plan setting count parts in_parts.are_parts in
        record {
          list = record {
            events = events;
            can = list.can;
            written = subst (λ (deeds : List Deed). AreWrittenInOrder setting (opening_system setting) events (entries_made deeds)) deeds_whole all.written;
            of_each = λ worker. filtered plan setting count worker parts in_parts.are_parts
                ∙ ap events_of (all_placed.moves_are_by worker ∙ moves_agree worker);
            histories = list.histories;
            idle = λ worker. ap (λ (system : SystemState). worker_state system worker) (lead setting (opening_system setting) events all.after all.happen).1 ∙ all.idle worker;
          };
          ended = λ worker. all.ended worker ∙ all_placed.ends_are_by worker ∙ ends_agree worker;
          called = are.called ∙ ap (λ (deeds : List Deed). map call_of_deed (heard plan Controller deeds)) deeds_whole;
          answers = all.answers ∙ are.answers ∙ ap (λ (deeds : List Deed). map answer_of_deed (heard plan Controller deeds)) deeds_whole;
          gone_over = are.gone_over ∙ ap (λ (deeds : List Deed). map shard_of_deed (heard plan Reclaimer deeds)) deeds_whole;
        }

    -- ---- the events, turn by turn

    turns_listed : (todo : List TurnDeeds) (list : List Part) (earlier : List SystemEvent) → AreTurnsOf todo list → AreIdleBetween setting earlier list →
        AreEventsOfTurns setting asked earlier (map (λ (one : TurnDeeds). one.turn) todo) (events_in_parts list)
    turns_listed [] [] earlier are idle = refl
    turns_listed [] (part ∷ list) earlier are idle = absurd are
    turns_listed (one ∷ todo) [] earlier are idle = absurd are
    turns_listed (one ∷ todo) (part ∷ list) earlier are idle = (
      events_of_part part,
      events_in_parts list,
      refl,
      are.0,
      idle.0,
      turns_listed todo list (earlier ++ events_of_part part) are.1 idle.1,
    )

    first_are : events_of_part first_part ≡ events_of_updates asked
    first_are = sym (map_both (made_deeds verified.maps options made))
        ∙ ap (λ (calls : List Call). map (λ (call : Call). Controls call) calls) (made_calls verified.maps options made)

    by_turn_all : IsTurnByTurn setting asked turns events
    by_turn_all = record {
      later = events_in_parts all_placed.parts;
      first = ap (λ (list : List SystemEvent). list ++ events_in_parts all_placed.parts) first_are;
      in_turns = subst (λ (list : List Turn). AreEventsOfTurns setting asked (events_of_updates asked) list (events_in_parts all_placed.parts)) given.turns_are
          (turns_listed given.done all_placed.parts (events_of_updates asked) all_placed.each
          (subst (λ (list : List SystemEvent). AreIdleBetween setting list all_placed.parts) first_are
          (list_in_parts setting plan count journal parts in_parts).idle.1));
    }

    -- ---- the calls before the first record

    calls_before : (many from : ℕ) (todo : List TurnDeeds) (list : List Part) (after : List Turn) → AreTurnsOf todo list →
        map (λ (one : TurnDeeds). one.turn) todo ≡ map (λ (number : ℕ). TheCommand number) (numbers_from from many) ++ after →
        (more : List SystemEvent) ×
        (events_in_parts list ≡ map (λ (call : Call). Controls call) (flat_map (λ calls. calls) (take many (drop from asked.commands))) ++ more)
    calls_before zero from todo list after are same = (events_in_parts list, refl)
    calls_before (suc many) from [] list after are same = absurd cc
    calls_before (suc many) from (one ∷ todo) [] after are same = absurd are
    calls_before (suc many) from (one ∷ todo) (part ∷ list) after are same =
        let turn : one.turn ≡ TheCommand from = cc in
        let others : map (λ (each : TurnDeeds). each.turn) todo ≡ map (λ (number : ℕ). TheCommand number) (numbers_from (from + 1) many) ++ after = cc in
        let here : AreEventsOfTurn setting asked (TheCommand from) (events_of_part part) =
        subst (λ (which : Turn). AreEventsOfTurn setting asked which (events_of_part part)) turn are.0 in
        let rest_of = calls_before many (from + 1) todo list after are.1 others in
        let next : from + 1 ≡ suc from = omega arith in
        let left_calls : List (List Call) = take many (drop (from + 1) asked.commands) in
        let parted : take (suc many) (drop from asked.commands) ≡ here.0 ∷ left_calls =
        dropped_at asked.commands from many here.0 here.1
        ∙ ap (λ (n : ℕ). here.0 ∷ take many (drop n asked.commands)) (sym next) in (
          rest_of.0,
          (λ i. here.2 i ++ rest_of.1 i)
              ∙ sym (append_assoc (map (λ (call : Call). Controls call) here.0)
              (map (λ (call : Call). Controls call) (flat_map (λ calls. calls) left_calls)) rest_of.0)
              ∙ ap (λ (list : List SystemEvent). list ++ rest_of.0)
              (sym (map-append (λ (call : Call). Controls call) here.0 (flat_map (λ calls. calls) left_calls))
              ∙ ap (λ (calls : List (List Call)). map (λ (call : Call). Controls call) (flat_map (λ list. list) calls)) (sym parted)),
        )

    first_calls_are : whole.AreFirstCalls ran stopped verified safe script options records outcome fit captured sized accounted events
    first_calls_are =
        let before = calls_before (first_commands script) 0 given.done all_placed.parts given.later all_placed.each (given.turns_are ∙ given.begins) in (
          before.0,
          (λ i. first_are i ++ before.1 i)
              ∙ sym (append_assoc (events_of_updates asked)
              (map (λ (call : Call). Controls call) (flat_map (λ calls. calls) (take (first_commands script) asked.commands))) before.0)
              ∙ ap (λ (list : List SystemEvent). list ++ before.0)
              (sym (map-append (λ (call : Call). Controls call) asked.updates (flat_map (λ calls. calls) (take (first_commands script) asked.commands)))),
        )

    in_turns : HeadlineInTurns verified script options records outcome accounted turns
    in_turns = record {
      kept = whole.headline_of ran stopped verified safe script options records outcome fit captured sized accounted listed first_calls_are;
      in_turns = by_turn_all;
    }

pub replays_in_turns : RunsAreOfTheSystem → StoppedRunsAreOfTheSystem → (verified : Verified) → IsSafeImage verified.maps verified.code →
    ReplaysInTurnsAreListed verified
replays_in_turns ran stopped verified safe script options records outcome turns fit captured sized accounted given =
    in_turns ran stopped verified safe script options records outcome fit captured sized accounted turns given
