-- What `run_alone` ensures, as one list of events: of a run that ended, and of one that a full journal stopped.
use Rattle.std.proofs.Common.{◌≡◌, ◌≢◌, ◌⊎◌, inl, inr, ⊎_elim, ℕ, ◌+◌, ◌*◌, ◌<◌, ◌==◌, ◌&&◌, ◌||◌, not, Bool, true, false, cond, List, [], ◌∷◌, ◌++◌, length, map, reverse, Option, Some, None, refl, sym, ◌∙◌, ap, subst, arith, append_assoc, append-nil}
use Rattle.std.specs.Prelude.{filter, slice_get, if◌then◌else◌, IsFalse}
use Rattle.std.specs.List.{AllByRecursion}
use Rattle.std.proofs.lemmas.Bool.{cases_eq, ne_eqb}
use Rattle.std.proofs.lemmas.List.{length-append}
use Rattle.std.proofs.lemmas.List.Elements.{filter-append, recursion_from_All}
use Rattle.std.proofs.lemmas.Option.{slice_get_within}
use Rattle.std.proofs.Math.Nat.{mod-lt}
use Rattle.ebpf_decode.specs.InstructionEncoding.{total_slots}
use Rattle.ebpf_decode.specs.declared.map.MapDef.{MapDef}
use Rattle.wire.specs.FrameView.{FrameView}
use Rattle.map_updates.specs.Misfits.{misfit_of, misfit_among}
use Rattle.map_updates.specs.declared.update.MapUpdate.{MapUpdate}
use Rattle.semantics.specs.declared.call.Call.{Call}
use Rattle.semantics.specs.declared.call.Call.TheVariants.{Enter}
use Rattle.semantics.specs.declared.call.Caller.{Caller}
use Rattle.semantics.specs.declared.call.Caller.TheVariants.{Worker, Controller, Reclaimer}
use Rattle.semantics.specs.declared.call.Entry.{Entry}
use Rattle.semantics.specs.declared.plan.ShardPlan.{ShardPlan}
use Rattle.semantics.specs.declared.verdict.Verdict.{Verdict}
use Rattle.semantics.specs.CallerLaws.{is_caller}
use Rattle.semantics.specs.Events.{Ending, Exited, Stopped, begun_by}
use Rattle.semantics.specs.History.{shard_of_call, journal_is_full, IsJournalFull, IsLegalJournal}
use Rattle.semantics.specs.MachineState.{MachineState, initial_state}
use Rattle.semantics.specs.Program.{part_of_key, shard_in_map, shard_number_of_key}
use Rattle.semantics.specs.Reclamation.{is_worker}
use Rattle.semantics.specs.ShardPlan.{plan_at}
use Rattle.semantics.specs.System.{Setting, program_of_setting, SystemEvent, Controls, Idle, run_over, is_entered, input_frame}
use Rattle.semantics.proofs.shared.PlanLemmas.{some_shards, below_count}
use Rattle.journals.specs.JournalsView.{JournalsView, entries_at}
use Rattle.machine.specs.declared.exit.Stop.TheVariants.{JournalFull}
use Rattle.map_port.specs.Exchanges.{Exchange}
use Rattle.map_port.specs.Served.{Maps}
use Rattle.shard_core.specs.JournaledShard.{JournaledShard}
use Rattle.shards.specs.Deeds.{shard_of_deed, caller_of_deed, is_of_shard, made_on, AreMet}
use Rattle.shards.specs.Seats.{no_plan}
use Rattle.shards.specs.declared.deeds.Deed.{Deed}
use Rattle.shards.specs.declared.deeds.Deed.TheVariants.{Wrote, MetFull}
use Rattle.shard_port.specs.Asking.{is_in, enter_by, leave_by}
use Rattle.shard_port.specs.PassDeeds.{rising}
use Rattle.shard_port.specs.PassSessions.{session_at, AreCallsWithin}
use Rattle.shard_port.specs.Sessions.{exchange_entries, behind_enter, session}
use Rattle.runs.specs.ShardRuns.{IsVisit, IsFullForEnter, IsFullForCall, IsFullAfter}
use Rattle.runs.specs.SingleRuns.{AreLegalJournalsOf, HasRunAlone, IsCutBehind, WasRefusedAlone}
use Rattle.runs.specs.Updates.{served_by, call_of_update, entry_of_update, updates_at, updated_shard}
use Rattle.guarantees.specs.Merging.{IsSetBefore, NoneRefused, is_refusal, moves_of, set_and_done, events_of}
use Rattle.guarantees.specs.RunsAlone.{input_at, all_taken, IsAloneInSystem, IsAskedAlone, RunsAloneAreOfTheSystem, StoppedRunsAloneAreOfTheSystem}
use Rattle.guarantees.specs.Steps.{Writes, TurnedAway, Move, begins, does, asks, IsStep, RunBegins, RunEnds, ShardIsEntered, CallIsRefused, EnterIsRefused, AreSteps, entries_in, entries_on, deeds_in, InRun, running, AreStepsOfRun, beginning, leavings}
use Rattle.guarantees.proofs.AnswerLemmas.{begun_among}
use Rattle.actors.proofs.shared.DeedLemmas.{turned, made_reversed}
use Rattle.guarantees.proofs.EndLemmas.{Walk}
use Rattle.guarantees.proofs.EventLemmas.{is_some_entry, since, Reaches, Exited as EndsSo, reached, append_on, append_deeds, whole_session}
use Rattle.actors.proofs.shared.EveryEntry.{all_both, all_reverse}
use Rattle.guarantees.proofs.Leaving.{itself, all_leave}
use Rattle.guarantees.proofs.Heard.{heard, is_askable, answer_of_deed}
use Rattle.guarantees.specs.InParts.{call_of_deed}
use Rattle.guarantees.proofs.Merge.{one_list_behind}
use Rattle.guarantees.proofs.MoveLemmas.{numbered}
use Rattle.guarantees.proofs.OneWorker.{its_own, IsOwnDeed, all_own, all_entries, IsWritten, all_written, none_looks, deeds_set, set_entries, set_written, order_of_one, none_met, run_refuses_none, leavings_refuse_none}
use Rattle.guarantees.proofs.RunEnds.{IsRunOn, run_on, exit_walk, stop_walk, leaving_begins_none}
use Rattle.guarantees.proofs.StopLemmas.{WaitsFor, led, led_there, steps_end, called_none, called_some, visits, visit_elsewhere, visit_there}

-- ---- lists

one_mapped : {A B : Type 0} (test : B → Bool) (f : A → B) (x : A) (xs : List A) (here : Bool) →
    filter test (map f xs) ≡ map f (filter (λ y. test (f y)) xs) →
    cond here (f x ∷ filter test (map f xs)) (filter test (map f xs))
    ≡ map f (cond here (x ∷ filter (λ y. test (f y)) xs) (filter (λ y. test (f y)) xs))
one_mapped {A} {B} test f x xs true rest = ap (λ (list : List B). f x ∷ list) rest
one_mapped test f x xs false rest = rest

mapped_filter : {A B : Type 0} (test : B → Bool) (f : A → B) (xs : List A) → filter test (map f xs) ≡ map f (filter (λ x. test (f x)) xs)
mapped_filter test f [] = refl
mapped_filter test f (x ∷ xs) = one_mapped test f x xs (test (f x)) (mapped_filter test f xs)

-- what is made of the moves of one worker, where it is nothing of none
of_one : {X : Type 0} (f : ℕ → List Move → List X) (worker one : ℕ) (moves : List Move) (xs : List X) → ((other : ℕ) → f other [] ≡ []) →
    f worker moves ≡ xs → f one (moves_of worker moves one) ≡ (if one == worker then xs else [])
of_one {X} f worker one moves xs none is = ⊎_elim
    (λ (same : one ≡ worker). subst (λ (n : ℕ). f n (moves_of worker moves n) ≡ (if n == worker then xs else [])) (sym same)
    (ap (λ (test : Bool). f worker (cond test moves [])) (its_own worker) ∙ is ∙ sym (ap (λ (test : Bool). cond test xs []) (its_own worker))))
    (λ (apart : one ≢ worker). ap (λ (test : Bool). f one (cond test moves [])) (ne_eqb one worker apart) ∙ none one
    ∙ sym (ap (λ (test : Bool). cond test xs []) (ne_eqb one worker apart)))
    (cases_eq one worker)

-- ---- the controller's deeds, and the worker's

not_heard : (plan : ℕ → ShardPlan) (other : Caller) → ((number : ℕ) → is_caller other (Worker number) ≡ false) → (count worker : ℕ) (deeds : List Deed) →
    AllByRecursion (IsOwnDeed count worker) deeds → heard plan other deeds ≡ []
not_heard plan other none count worker [] own = refl
not_heard plan other none count worker (deed ∷ deeds) own =
    ap (λ (test : Bool). cond test (deed ∷ heard plan other deeds) (heard plan other deeds))
    (by_who (caller_of_deed deed) own.0.1 (is_askable plan other deed))
    ∙ not_heard plan other none count worker deeds own.1
  where
    by_who : (who : Caller) → is_worker worker who ≡ true → (rest : Bool) → (is_caller other who && rest) ≡ false
    by_who (Worker number) is rest = ap (λ (test : Bool). test && rest) (none number)
    by_who Controller is rest = absurd cc
    by_who Reclaimer is rest = absurd cc

module _ (served : Maps) where
  abbrev entries : List MapUpdate → List Entry
  entries updates = map (entry_of_update served) updates

  heard_set : (plan : ℕ → ShardPlan) (updates : List MapUpdate) (later : List Deed) →
      heard plan Controller (deeds_set (entries updates) ++ later) ≡ deeds_set (entries updates) ++ heard plan Controller later
  heard_set plan [] later = refl
  heard_set plan (update ∷ updates) later = ap (λ (list : List Deed). Wrote (entry_of_update served update) ∷ list) (heard_set plan updates later)

  none_freed : (plan : ℕ → ShardPlan) (updates : List MapUpdate) (later : List Deed) →
      heard plan Reclaimer (deeds_set (entries updates) ++ later) ≡ heard plan Reclaimer later
  none_freed plan [] later = refl
  none_freed plan (update ∷ updates) later = none_freed plan updates later

  calls_set : (updates : List MapUpdate) → map call_of_deed (deeds_set (entries updates)) ≡ map (call_of_update served) updates
  calls_set [] = refl
  calls_set (update ∷ updates) = ap (λ (list : List Call). call_of_update served update ∷ list) (calls_set updates)

  answers_set : (updates : List MapUpdate) → map answer_of_deed (deeds_set (entries updates)) ≡ all_taken updates
  answers_set [] = refl
  answers_set (update ∷ updates) = ap (λ list. Some (entry_of_update served update).reply ∷ list) (answers_set updates)

  events_set : (updates : List MapUpdate) →
      map (λ (entry : Entry). Controls entry.call) (entries updates) ≡ map (λ (call : Call). Controls call) (map (call_of_update served) updates)
  events_set [] = refl
  events_set (update ∷ updates) = ap (λ (list : List SystemEvent). Controls (call_of_update served update) ∷ list) (events_set updates)

  controls : (updates : List MapUpdate) → AllByRecursion (λ (entry : Entry). entry.who ≡ Controller) (entries updates)
  controls [] = tt
  controls (update ∷ updates) = (refl, controls updates)

  -- each is on one of the shards
  within_by : (update : MapUpdate) (found : Option MapDef) → 0 < served.shards → slice_get served.maps update.map ≡ found →
      misfit_among found update ≡ None → shard_in_map found served.shards update.map update.key < length served.maps * served.shards
  within_by update None some is fits = absurd cc
  within_by update (Some definition) some is fits =
      below_count update.map (length served.maps) served.shards (part_of_key definition.kind served.shards update.key)
      (slice_get_within served.maps update.map definition is) (mod-lt (shard_number_of_key definition.kind update.key) some)

  set_before : 0 < served.shards → (updates : List MapUpdate) → AllByRecursion (λ (update : MapUpdate). misfit_of served.maps update ≡ None) updates →
      AllByRecursion (IsSetBefore (length served.maps * served.shards)) (entries updates)
  set_before some [] fit = tt
  set_before some (update ∷ updates) fit = (
    record { who = refl; within = within_by update (slice_get served.maps update.map) some refl fit.0 },
    set_before some updates fit.1,
  )

-- ---- one look at a full journal, among deeds that are entries

met_once : (plan : ℕ → ShardPlan) (earlier later : List Deed) (who : Caller) (call : Call) → AllByRecursion IsWritten earlier →
    AllByRecursion IsWritten later → IsJournalFull (plan (shard_of_call call)) (reverse (made_on (shard_of_call call) earlier)) call →
    AreMet plan (reverse (earlier ++ MetFull who call ∷ later))
met_once plan earlier later who call before after full =
    subst (AreMet plan) (sym (turned earlier later (MetFull who call))) (behind (reverse later) (all_reverse IsWritten later after))
  where
    behind : (newer : List Deed) → AllByRecursion IsWritten newer → AreMet plan (newer ++ MetFull who call ∷ reverse earlier)
    behind [] all = (
      subst (λ (list : List Entry). IsJournalFull (plan (shard_of_call call)) list call) (sym (made_reversed (shard_of_call call) earlier)) full,
      none_looks plan (reverse earlier) (all_reverse IsWritten earlier before),
    )
    behind (Wrote entry ∷ newer) all = (tt, behind newer all.1)
    behind (MetFull other asked ∷ newer) all = absurd all.0

-- ---- what the journal of the refused call's shard says of the place of the refusal

as_long : {A : Type 0} (before own more : List A) (last : A) → before ++ own ≡ (before ++ more) ++ last ∷ [] → length own ≡ length more + 1
as_long before own more last is =
    let a = length-append before own in
    let b : length ((before ++ more) ++ last ∷ []) ≡ length (before ++ more) + 1 = length-append (before ++ more) (last ∷ []) in
    let c = length-append before more in
    let e : length (before ++ own) ≡ length ((before ++ more) ++ last ∷ []) = ap length is in
    omega (arith, a, b, c, e)

session_is : (worker number : ℕ) (made : List Entry) → is_some_entry made ≡ true →
    session worker number made ≡ behind_enter worker number made ++ leave_by worker number ∷ []
session_is worker number [] some = absurd cc
session_is worker number (first ∷ later) some = refl

is_full : (inside full : Bool) → (inside || not full) ≡ false → full ≡ true
is_full true full none = absurd cc
is_full false true none = refl
is_full false false none = absurd cc

-- the shard with these entries more
abbrev at_shard : ShardPlan → List Entry → List Entry → JournaledShard
at_shard plan before made = record { plan = plan; journal = before ++ made }

-- inside, the call met a full journal
met_inside : (worker number : ℕ) (before made journal : List Entry) (plan : ShardPlan) (call : Call) → is_some_entry made ≡ true →
    journal ≡ before ++ session worker number made →
    IsFullForEnter worker (at_shard plan before (behind_enter worker number made)) journal
    ⊎ IsFullForCall worker number (at_shard plan before (behind_enter worker number made)) call journal →
    IsJournalFull plan (reverse (before ++ behind_enter worker number made)) call
met_inside worker number before made journal plan call some whole met =
    let own : List Entry = behind_enter worker number made in
    let leave : Entry = leave_by worker number in
    let here : JournaledShard = at_shard plan before (behind_enter worker number made) in
    let whole_is : journal ≡ before ++ (own ++ leave ∷ []) = whole ∙ ap (λ (list : List Entry). before ++ list) (session_is worker number made some) in
    let longer : length (own ++ leave ∷ []) ≡ length own + 1 = length-append own (leave ∷ []) in
    ⊎_elim
    (λ (at : IsFullForEnter worker here journal).
    let one = length-append before own in
    let two = length-append before (own ++ leave ∷ []) in
    let same : length (before ++ own) ≡ length (before ++ (own ++ leave ∷ [])) = ap length (sym at.nothing ∙ whole_is) in
    absurd (omega (arith, longer, one, two, same)))
    (λ (at : IsFullForCall worker number here call journal).
    by_test own leave (enter_by worker plan.number) longer whole_is (is_in worker here) at.full at.leaves)
    met
  where
    by_test : (own : List Entry) (leave enter : Entry) → length (own ++ leave ∷ []) ≡ length own + 1 → journal ≡ before ++ (own ++ leave ∷ []) →
        (inside : Bool) → IsJournalFull plan (reverse ((before ++ own) ++ (if inside then [] else enter ∷ []))) call →
        journal ≡ ((before ++ own) ++ (if inside then [] else enter ∷ [])) ++ leave ∷ [] →
        IsJournalFull plan (reverse (before ++ own)) call
    by_test own leave enter longer is true full leaves =
        subst (λ (list : List Entry). IsJournalFull plan (reverse list) call) (append-nil (before ++ own)) full
    by_test own leave enter longer is false full leaves =
        let one = length-append before (own ++ leave ∷ []) in
        let two : length ((before ++ own) ++ enter ∷ []) ≡ length (before ++ own) + 1 = length-append (before ++ own) (enter ∷ []) in
        let three : length (((before ++ own) ++ enter ∷ []) ++ leave ∷ []) ≡ length ((before ++ own) ++ enter ∷ []) + 1 =
        length-append ((before ++ own) ++ enter ∷ []) (leave ∷ []) in
        let four = length-append before own in
        let same : length (before ++ (own ++ leave ∷ [])) ≡ length (((before ++ own) ++ enter ∷ []) ++ leave ∷ []) = ap length (sym is ∙ leaves) in
        absurd (omega (arith, longer, one, two, three, four, same))

-- outside, the Enter met one, or the worker entered for the call alone
abbrev IsMetOutside : ℕ → ℕ → List Entry → List Entry → ShardPlan → Call → Type 0
IsMetOutside worker number before journal plan call =
    ((journal ≡ before) × IsJournalFull plan (reverse before) (Enter number))
    ⊎ ((journal ≡ before ++ enter_by worker number ∷ leave_by worker number ∷ [])
    × IsJournalFull plan (reverse (before ++ enter_by worker number ∷ [])) call)

module _ (worker number : ℕ) (before journal : List Entry) (plan : ShardPlan) (call : Call) (numbered : plan.number ≡ number) where
  abbrev at_visit : List Entry
  at_visit = enter_by worker number ∷ leave_by worker number ∷ []

  kept_out : (own : List Entry) → journal ≡ before ++ own → (own ≡ []) ⊎ (own ≡ at_visit) → IsFullForEnter worker (at_shard plan before []) journal →
      IsMetOutside worker number before journal plan call
  kept_out own both either at =
      let full : journal_is_full plan (reverse (before ++ [])) (Enter plan.number) ≡ true =
      is_full (is_in worker (at_shard plan before [])) (journal_is_full plan (reverse (before ++ [])) (Enter plan.number)) at.full in
      inl (
        at.nothing ∙ append-nil before,
        subst (λ (list : List Entry). IsJournalFull plan (reverse list) (Enter number)) (append-nil before)
            (subst (λ (n : ℕ). IsJournalFull plan (reverse (before ++ [])) (Enter n)) numbered full),
      )

  refused_by : (own : List Entry) → journal ≡ before ++ own → (own ≡ []) ⊎ (own ≡ at_visit) → (inside : Bool) →
      IsJournalFull plan (reverse ((before ++ []) ++ (if inside then [] else enter_by worker plan.number ∷ []))) call →
      journal ≡ ((before ++ []) ++ (if inside then [] else enter_by worker plan.number ∷ [])) ++ leave_by worker number ∷ [] →
      IsMetOutside worker number before journal plan call
  refused_by own both either true full leaves =
      let long : length own ≡ 0 + 1 =
      as_long before own [] (leave_by worker number)
      (sym both ∙ leaves ∙ ap (λ (list : List Entry). list ++ leave_by worker number ∷ []) (append-nil (before ++ []))) in
      ⊎_elim
      (λ (none : own ≡ []). let short : length own ≡ 0 = ap length none in absurd (omega (arith, long, short)))
      (λ (two : own ≡ at_visit). let many : length own ≡ 2 = ap length two in absurd (omega (arith, long, many)))
      either
  refused_by own both either false full leaves =
      let enter : Entry = enter_by worker plan.number in
      let all : journal ≡ (before ++ enter ∷ []) ++ leave_by worker number ∷ [] =
      leaves ∙ ap (λ (list : List Entry). (list ++ enter ∷ []) ++ leave_by worker number ∷ []) (append-nil before) in
      let long : length own ≡ 1 + 1 = as_long before own (enter ∷ []) (leave_by worker number) (sym both ∙ all) in
      ⊎_elim
      (λ (none : own ≡ []). let short : length own ≡ 0 = ap length none in absurd (omega (arith, long, short)))
      (λ (two : own ≡ at_visit).
      inr (
        both ∙ ap (λ (list : List Entry). before ++ list) two,
        subst (λ (n : ℕ). IsJournalFull plan (reverse (before ++ enter_by worker n ∷ [])) call) numbered
            (subst (λ (list : List Entry). IsJournalFull plan (reverse (list ++ enter ∷ [])) call) (append-nil before) full),
      ))
      either

  met_outside : (own : List Entry) → journal ≡ before ++ own → (own ≡ []) ⊎ (own ≡ at_visit) →
      IsFullForEnter worker (at_shard plan before []) journal ⊎ IsFullForCall worker number (at_shard plan before []) call journal →
      IsMetOutside worker number before journal plan call
  met_outside own both either met = ⊎_elim
      (λ (at : IsFullForEnter worker (at_shard plan before []) journal). kept_out own both either at)
      (λ (at : IsFullForCall worker number (at_shard plan before []) call journal).
      refused_by own both either (is_in worker (at_shard plan before [])) at.full at.leaves)
      met

-- ---- the whole

abbrev plan_or : Option ShardPlan → ShardPlan
plan_or (Some plan) = plan
plan_or None = no_plan

module _ (setting : Setting) (worker now : ℕ) (frame : List ℕ) (updates : List MapUpdate) (journals : JournalsView)
    (asked : IsAskedAlone setting worker now frame updates) (are : AreLegalJournalsOf setting.maps setting.options journals) where
  abbrev served : Maps
  served = served_by setting.maps setting.options

  abbrev set : List Entry
  set = map (entry_of_update served) updates

  abbrev count : ℕ
  count = length setting.maps * setting.options.shards

  abbrev plan : ℕ → ShardPlan
  plan number = plan_or (plan_at setting.maps setting.options number)

  abbrev start : MachineState
  start = initial_state (input_frame frame) worker now

  abbrev IsAlone : Ending → Type 0
  IsAlone ending = IsAloneInSystem setting worker now frame updates ending journals

  early : worker < 8
  early = let few = asked.few in let most = asked.options.at_most_eight in omega (arith, few, most)

  there : (number : ℕ) → number < count → number < length journals.shards
  there number below = subst (λ (n : ℕ). number < n) (sym are.count) below

  known : (number : ℕ) → number < count → plan_at setting.maps setting.options number ≡ Some (plan number)
  known number below =
      let at = are.legal number (there number below) in at.planned ∙ sym (ap (λ (found : Option ShardPlan). Some (plan_or found)) at.planned)

  legal_at : (number : ℕ) → number < count → IsLegalJournal (plan number) (entries_at journals number)
  legal_at number below =
      let at = are.legal number (there number below) in
      subst (λ (one : ShardPlan). IsLegalJournal one (entries_at journals number)) (sym (ap plan_or at.planned)) at.legal

  set_on : (number : ℕ) → filter (is_of_shard number) set ≡ updates_at served number updates
  set_on number = mapped_filter (is_of_shard number) (entry_of_update served) updates

  before : AllByRecursion (IsSetBefore count) set
  before = set_before served (some_shards setting.maps setting.options asked.options) updates
      (recursion_from_All (λ (update : MapUpdate). misfit_of setting.maps update ≡ None) updates asked.fit)

  -- what is there before a place of the worker's moves
  made_before : (number : ℕ) (moves : List Move) →
      made_on number (deeds_set set ++ deeds_in worker moves) ≡ updates_at served number updates ++ entries_on number moves
  made_before number moves =
      ap (filter (is_of_shard number)) (set_entries set (deeds_in worker moves) ∙ ap (λ (list : List Entry). set ++ list) (all_entries worker moves))
      ∙ filter-append (is_of_shard number) set (entries_in moves)
      ∙ ap (λ (list : List Entry). list ++ entries_on number moves) (set_on number)

  -- moves of one run, by which the journals are what they are
  lone : (moves : List Move) (ending : Ending) → IsRunOn setting count worker (input_at frame worker now) moves ending →
      AreMet plan (reverse (deeds_set set ++ deeds_in worker moves)) →
      ((number : ℕ) → number < count → entries_at journals number ≡ updates_at served number updates ++ entries_on number moves) →
      IsAlone ending
  lone moves ending run met written =
      let same : (number : ℕ) → number < count → set_and_done set moves number ≡ entries_at journals number =
      λ number below. ap (λ (list : List Entry). list ++ entries_on number moves) (set_on number) ∙ sym (written number below) in
      let order = order_of_one setting plan count worker set moves asked.options refl known before run.walk.steps met
      (λ number below. subst (IsLegalJournal (plan number)) (sym (same number below)) (legal_at number below)) in
      let walks : (one : ℕ) → Walk setting count one Idle (moves_of worker moves one) (if one == worker then ending ∷ [] else []) =
      λ one. ⊎_elim
      (λ (here : one ≡ worker).
      subst (λ (n : ℕ). Walk setting count n Idle (moves_of worker moves n) (if n == worker then ending ∷ [] else [])) (sym here)
      (subst (λ (test : Bool). Walk setting count worker Idle (cond test moves []) (cond test (ending ∷ []) [])) (sym (its_own worker)) run.walk))
      (λ (apart : one ≢ worker).
      subst (λ (test : Bool). Walk setting count one Idle (cond test moves []) (cond test (ending ∷ []) [])) (sym (ne_eqb one worker apart))
      (record { steps = refl; ends_are = refl }))
      (cases_eq one worker) in
      let all = one_list_behind setting plan count (set_and_done set moves) (moves_of worker moves) (λ (one : ℕ). if one == worker then ending ∷ [] else [])
      set (deeds_in worker moves) (controls served updates) order walks in
      let own = all_own setting count worker moves Idle Idle run.walk.steps in
      let calls : heard plan Controller (deeds_set set ++ deeds_in worker moves) ≡ deeds_set set =
      heard_set served plan updates (deeds_in worker moves)
      ∙ ap (λ (list : List Deed). deeds_set set ++ list) (not_heard plan Controller (λ number. refl) count worker (deeds_in worker moves) own)
      ∙ append-nil (deeds_set set) in
      let none : heard plan Reclaimer (deeds_set set ++ deeds_in worker moves) ≡ [] =
      none_freed served plan updates (deeds_in worker moves) ∙ not_heard plan Reclaimer (λ number. refl) count worker (deeds_in worker moves) own in
      record {
        events = all.whole.list.events;
        are = record {
          can = all.whole.list.can;
          run = all.first.0;
          calls_first = all.first.1 ∙ ap (λ (list : List SystemEvent). list ++ all.first.0) (events_set served updates);
          called = all.whole.called ∙ ap (map call_of_deed) calls ∙ calls_set served updates;
          begun = λ one. begun_among one all.whole.list.events ∙ ap (begun_by one) (all.whole.list.of_each one)
              ∙ of_one (λ n list. begun_by n (events_of list)) worker one moves (input_at frame worker now ∷ []) (λ other. refl) run.begun;
          none_gone_over = all.whole.gone_over ∙ ap (map shard_of_deed) none;
          ended = all.whole.ended;
          answers_are = all.whole.answers ∙ ap (map answer_of_deed) calls ∙ answers_set served updates;
          left = λ shard below. all.whole.list.histories shard below ∙ same shard below;
          idle = all.whole.list.idle;
        };
      }

  -- ---- a run that ended

  pub ended_alone : (verdict : Verdict) (steps : ℕ) (sent : FrameView) →
      HasRunAlone (program_of_setting setting) start setting.options worker updates verdict steps sent journals → IsAlone (Exited verdict sent.bytes steps)
  ended_alone verdict steps sent ran =
      let last : MachineState = ran.ended.last in
      let within : AreCallsWithin count ran.exchanges = subst (λ (n : ℕ). AreCallsWithin n ran.exchanges) are.count ran.within in
      let to : Reaches (EndsSo setting verdict last) setting count worker start [] ran.exchanges =
      reached setting count worker (total_slots setting.code) verdict last start [] ran.exchanges tt within ran.ended.formed ran.ended.trace in
      let here : InRun = record { state = to.ending; entered = to.after } in
      let final : List Move = does worker ∷ leavings worker (rising count to.after) in
      let moves : List Move = begins worker frame now worker ∷ to.run ++ final in
      let run : IsRunOn setting count worker (input_at frame worker now) moves (Exited verdict last.frame.bytes last.steps) =
      run_on setting count worker worker now frame to.run final here (Exited verdict last.frame.bytes last.steps) refl
      (RunBegins frame now worker asked.few asked.input asked.early early) to.runs
      (exit_walk setting count worker here verdict last (rising count to.after) to.ended (RunEnds to.ending last verdict to.after to.ended)
      (all_leave setting count worker to.after to.distinct))
      (leaving_begins_none worker (rising count to.after)) in
      let none : NoneRefused moves = (
        refl,
        all_both (λ (move : Move). IsFalse (is_refusal move.asked)) to.run final
            (run_refuses_none setting count worker to.run (beginning frame worker now) here to.runs)
            (refl, leavings_refuse_none worker (rising count to.after)),
      ) in
      let done : (number : ℕ) → entries_on number moves ≡ session_at worker number ran.exchanges =
      λ number. append_on number to.run final ∙ sym (append_on number to.run (leavings worker (rising count to.after)))
      ∙ whole_session (EndsSo setting verdict last) setting count worker start ran.exchanges to number in
      subst IsAlone
      (ap (λ (left : FrameView). Exited verdict left.bytes last.steps) (sym ran.ended.sent)
      ∙ ap (λ (n : ℕ). Exited verdict sent.bytes n) (sym ran.ended.counted))
      (lone moves (Exited verdict last.frame.bytes last.steps) run (none_met plan worker set moves none)
      (λ number below. ran.written number (there number below)
      ∙ ap (λ (list : List Entry). updates_at served number updates ++ list) (sym (done number))))

  -- ---- one that was stopped

  stop_by : (moves : List Move) (here : InRun) (refused : Call) (left : List ℕ) → AreStepsOfRun setting count worker (beginning frame worker now) moves here →
      IsStep setting count worker (running here) (asks worker (TurnedAway refused)) (run_over here.entered) →
      AreSteps setting count worker (run_over here.entered) (leavings worker left) Idle →
      IsJournalFull (plan (shard_of_call refused))
      (reverse (updates_at served (shard_of_call refused) updates ++ entries_on (shard_of_call refused) moves)) refused →
      ((number : ℕ) → number < count →
      entries_at journals number ≡ updates_at served number updates ++ entries_on number (moves ++ leavings worker left)) →
      IsAlone (Stopped (shard_of_call refused))
  stop_by moves here refused left steps refuses leaves full written =
      let final : List Move = asks worker (TurnedAway refused) ∷ leavings worker left in
      let whole : List Move = begins worker frame now worker ∷ moves ++ final in
      let run : IsRunOn setting count worker (input_at frame worker now) whole (Stopped (shard_of_call refused)) =
      run_on setting count worker worker now frame moves final here (Stopped (shard_of_call refused)) refl
      (RunBegins frame now worker asked.few asked.input asked.early early) steps (stop_walk setting count worker here refused left refuses leaves)
      (leaving_begins_none worker left) in
      let parts : deeds_set set ++ deeds_in worker whole
      ≡ (deeds_set set ++ deeds_in worker moves) ++ MetFull (Worker worker) refused ∷ deeds_in worker (leavings worker left) =
      ap (λ (list : List Deed). deeds_set set ++ list) (append_deeds worker moves final)
      ∙ sym (append_assoc (deeds_set set) (deeds_in worker moves) (MetFull (Worker worker) refused ∷ deeds_in worker (leavings worker left))) in
      let met : AreMet plan (reverse (deeds_set set ++ deeds_in worker whole)) =
      subst (λ (list : List Deed). AreMet plan (reverse list)) (sym parts)
      (met_once plan (deeds_set set ++ deeds_in worker moves) (deeds_in worker (leavings worker left)) (Worker worker) refused
      (all_both IsWritten (deeds_set set) (deeds_in worker moves) (set_written set)
      (all_written worker moves (run_refuses_none setting count worker moves (beginning frame worker now) here steps)))
      (all_written worker (leavings worker left) (leavings_refuse_none worker left))
      (subst (λ (list : List Entry). IsJournalFull (plan (shard_of_call refused)) (reverse list) refused)
      (sym (made_before (shard_of_call refused) moves)) full)) in
      lone whole (Stopped (shard_of_call refused)) run met
      (λ number below. written number below
      ∙ ap (λ (list : List Entry). updates_at served number updates ++ list)
      (append_on number moves (leavings worker left) ∙ sym (append_on number moves final)))

  module _ (exchanges : List Exchange) (call : Call) (waiting : MachineState) (below : shard_of_call call < count)
      (to : Reaches (WaitsFor setting call waiting) setting count worker start [] exchanges)
      (cut : (number : ℕ) → number < count →
      IsCutBehind (updates_at served number updates) worker number exchanges call (entries_at journals number))
      (full : IsFullAfter worker (shard_of_call call) exchanges call
      (updated_shard served (shard_of_call call) updates (plan (shard_of_call call))) (entries_at journals (shard_of_call call))) where
    abbrev shard : ℕ
    shard = shard_of_call call

    abbrev made : ℕ → List Entry
    made number = exchange_entries worker number exchanges

    abbrev IsWhole : ℕ → Type 0
    IsWhole number = entries_at journals number ≡ updates_at served number updates ++ session_at worker number exchanges

    -- elsewhere the journal has the whole session
    elsewhere : (number : ℕ) → number < count → number ≢ shard → IsWhole number
    elsewhere number within apart =
        let at = cut number within in
        at.both ∙ ap (λ (list : List Entry). updates_at served number updates ++ list)
        (⊎_elim (λ (same : at.own ≡ session_at worker number exchanges). same)
        (λ (visit : IsVisit worker number exchanges call at.own). absurd (apart (sym visit.own_shard))) at.session)

    everywhere : IsWhole shard → (number : ℕ) → number < count → IsWhole number
    everywhere here number within = ⊎_elim (λ (same : number ≡ shard). subst IsWhole (sym same) here)
        (λ (apart : number ≢ shard). elsewhere number within apart) (cases_eq number shard)

    -- with this Leave of each shard that was entered
    with_session : IsWhole shard → (number : ℕ) → number < count →
        entries_at journals number
        ≡ updates_at served number updates ++ entries_on number (to.run ++ leavings worker (rising count to.after))
    with_session here number within =
        everywhere here number within
        ∙ ap (λ (list : List Entry). updates_at served number updates ++ list)
        (sym (whole_session (WaitsFor setting call waiting) setting count worker start exchanges to number))

    abbrev at_call : InRun
    at_call = record { state = waiting; entered = to.after }

    goes_on : AreStepsOfRun setting count worker (beginning frame worker now) to.run at_call
    goes_on = led_there setting count worker worker now frame call waiting exchanges to

    inside_stop : is_entered shard to.after ≡ true → IsAlone (Stopped shard)
    inside_stop inside =
        let some : is_some_entry (made shard) ≡ true = sym (to.stays shard) ∙ inside in
        let at = cut shard below in
        let whole : IsWhole shard =
        at.both ∙ ap (λ (list : List Entry). updates_at served shard updates ++ list)
        (⊎_elim (λ (same : at.own ≡ session_at worker shard exchanges). same)
        (λ (visit : IsVisit worker shard exchanges call at.own).
        absurd (called_some setting worker worker now frame count exchanges call waiting below to shard inside visit.first_call)) at.session) in
        stop_by to.run at_call call (rising count to.after) goes_on
        (CallIsRefused waiting to.after call to.ended.next to.ended.asks_it below inside) (all_leave setting count worker to.after to.distinct)
        (subst (λ (list : List Entry). IsJournalFull (plan shard) (reverse (updates_at served shard updates ++ list)) call) (sym (to.writes shard))
        (met_inside worker shard (updates_at served shard updates) (made shard) (entries_at journals shard) (plan shard) call some whole full))
        (with_session whole)

    outside_stop : is_entered shard to.after ≡ false → IsAlone (Stopped shard)
    outside_stop outside =
        let none : made shard ≡ [] = called_none setting worker worker now frame count exchanges call waiting below to shard outside in
        let at = cut shard below in
        let nothing : entries_on shard to.run ≡ [] = to.writes shard ∙ ap (λ (list : List Entry). since false worker shard list) none in
        let either : (at.own ≡ []) ⊎ (at.own ≡ enter_by worker shard ∷ leave_by worker shard ∷ []) =
        ⊎_elim (λ (same : at.own ≡ session_at worker shard exchanges). inl (same ∙ ap (session worker shard) none))
        (λ (visit : IsVisit worker shard exchanges call at.own). inr visit.visit) at.session in
        let J : List Entry = entries_at journals shard in
        let U : List Entry = updates_at served shard updates in
        let so : IsFullForEnter worker (at_shard (plan shard) U []) J ⊎ IsFullForCall worker shard (at_shard (plan shard) U []) call J =
        subst (λ (list : List Entry). IsFullForEnter worker (at_shard (plan shard) U (behind_enter worker shard list)) J
        ⊎ IsFullForCall worker shard (at_shard (plan shard) U (behind_enter worker shard list)) call J) none full in
        ⊎_elim
        (λ (enter : (J ≡ U) × IsJournalFull (plan shard) (reverse U) (Enter shard)).
        stop_by to.run at_call (Enter shard) (rising count to.after) goes_on
        (EnterIsRefused waiting to.after call to.ended.next to.ended.asks_it below outside) (all_leave setting count worker to.after to.distinct)
        (subst (λ (list : List Entry). IsJournalFull (plan shard) (reverse list) (Enter shard))
        (sym (append-nil U) ∙ ap (λ (list : List Entry). U ++ list) (sym nothing)) enter.1)
        (with_session (enter.0 ∙ sym (append-nil U) ∙ ap (λ (list : List Entry). U ++ session worker shard list) (sym none))))
        (λ (visit : (J ≡ U ++ enter_by worker shard ∷ leave_by worker shard ∷ [])
        × IsJournalFull (plan shard) (reverse (U ++ enter_by worker shard ∷ [])) call).
        let passing : List Move = visits setting worker worker now frame count exchanges call waiting below to in
        let entered : entries_on shard passing ≡ enter_by worker shard ∷ [] =
        append_on shard to.run (asks worker (Writes (enter_by worker shard)) ∷ [])
        ∙ ap (λ (list : List Entry). list ++ entries_on shard (asks worker (Writes (enter_by worker shard)) ∷ [])) nothing
        ∙ ap (λ (test : Bool). cond test (enter_by worker shard ∷ []) []) (itself shard) in
        stop_by passing (record { state = waiting; entered = shard ∷ to.after }) call (rising count (shard ∷ to.after))
        (steps_end setting count worker (beginning frame worker now) at_call (record { state = waiting; entered = shard ∷ to.after }) to.run
        (asks worker (Writes (enter_by worker shard))) goes_on
        (ShardIsEntered waiting to.after call to.ended.next to.ended.asks_it below outside))
        (CallIsRefused waiting (shard ∷ to.after) call to.ended.next to.ended.asks_it below
        (ap (λ (test : Bool). test || is_entered shard to.after) (itself shard)))
        (all_leave setting count worker (shard ∷ to.after) (outside, below, to.distinct))
        (subst (λ (list : List Entry). IsJournalFull (plan shard) (reverse (U ++ list)) call) (sym entered) visit.1)
        (λ number within. ⊎_elim
        (λ (same : number ≡ shard).
        subst (λ (n : ℕ). entries_at journals n ≡ updates_at served n updates ++ entries_on n (passing ++ leavings worker (rising count (shard ∷ to.after))))
        (sym same)
        (visit.0 ∙ ap (λ (list : List Entry). U ++ list)
        (sym (visit_there setting worker worker now frame count exchanges call waiting below to outside))))
        (λ (apart : number ≢ shard).
        elsewhere number within apart
        ∙ ap (λ (list : List Entry). updates_at served number updates ++ list)
        (sym (visit_elsewhere setting worker worker now frame count exchanges call waiting below to number apart outside)))
        (cases_eq number shard)))
        (met_outside worker shard U J (plan shard) call (numbered setting shard (plan shard) (known shard below)) at.own at.both either so)

    by_inside : (inside : Bool) → is_entered shard to.after ≡ inside → IsAlone (Stopped shard)
    by_inside true is = inside_stop is
    by_inside false is = outside_stop is

  pub refused_alone : (left : FrameView) (shard : ℕ) → WasRefusedAlone (program_of_setting setting) start setting.options worker updates left journals shard →
      IsAlone (Stopped shard)
  refused_alone left shard was =
      let call : Call = was.refused in
      let among : shard < count = subst (λ (n : ℕ). shard < n) are.count was.refused_within in
      let below : shard_of_call call < count = subst (λ (n : ℕ). n < count) was.named among in
      let to : Reaches (WaitsFor setting call was.waited.waiting) setting count worker start [] was.exchanges =
      led setting count worker (total_slots setting.code) call was.waited.waiting start [] was.exchanges tt
      (subst (λ (n : ℕ). AreCallsWithin n was.exchanges) are.count was.within) was.waited.formed was.waited.trace in
      let planned : IsFullAfter worker shard was.exchanges call (updated_shard served shard updates (plan shard)) (entries_at journals shard) =
      subst (λ (one : ShardPlan). IsFullAfter worker shard was.exchanges call (updated_shard served shard updates one) (entries_at journals shard))
      (sym (ap plan_or was.planned)) was.full in
      subst (λ (n : ℕ). IsAlone (Stopped n)) (sym was.named)
      (by_inside was.exchanges call was.waited.waiting below to (λ number within. was.written number (there number within))
      (subst (λ (n : ℕ). IsFullAfter worker n was.exchanges call (updated_shard served n updates (plan n)) (entries_at journals n)) was.named planned)
      (is_entered (shard_of_call call) to.after) refl)

-- ---- the laws

pub runs_alone_are_of_the_system : RunsAloneAreOfTheSystem
runs_alone_are_of_the_system setting worker now frame updates verdict steps sent journals asked ran =
    ended_alone setting worker now frame updates journals asked ran.journals_are verdict steps sent ran

pub stopped_runs_alone_are_of_the_system : StoppedRunsAloneAreOfTheSystem
stopped_runs_alone_are_of_the_system setting worker now frame updates left (JournalFull shard) journals asked was =
    refused_alone setting worker now frame updates journals asked was.journals_are left shard was
