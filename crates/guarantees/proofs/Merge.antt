-- One order of all callers' deeds makes one list of events: by induction on the order, in which each deed is one event of its caller, after
-- the instructions that its worker does before it. Other workers stay where they are.
use Rattle.std.proofs.Common.{⊎_elim, ◌≡◌, ◌≢◌, ℕ, zero, suc, ◌*◌, ◌<◌, ◌≤◌, ◌==◌, ◌&&◌, Bool, true, false, true≢false, cond, List, [], ◌∷◌, ◌++◌, length, reverse, Option, Some, refl, sym, ◌∙◌, ap, subst, arith, append_assoc, append-nil}
use Rattle.std.specs.Prelude.{filter, map, IsTrue, slice_index_or}
use Rattle.std.specs.List.{AllByRecursion}
use Rattle.std.proofs.lemmas.Bool.{cases_lt, cases_eq, ne_eqb}
use Rattle.std.proofs.lemmas.Bool.Decides.{nat_tests}
use Rattle.std.proofs.lemmas.List.{reverse-reverse, length-replicate}
use Rattle.std.proofs.lemmas.List.Elements.{filter-append}
use Rattle.semantics.specs.declared.call.Caller.{Caller}
use Rattle.semantics.specs.declared.call.Caller.TheVariants.{Worker, Controller, Reclaimer}
use Rattle.semantics.specs.declared.call.Call.{Call}
use Rattle.semantics.specs.declared.call.Call.TheVariants.{Reclaim}
use Rattle.semantics.specs.declared.call.Entry.{Entry}
use Rattle.semantics.specs.declared.call.Reply.{Reply}
use Rattle.semantics.specs.declared.plan.ShardPlan.{ShardPlan}
use Rattle.semantics.specs.Reclamation.{is_worker}
use Rattle.semantics.specs.CallerLaws.{is_caller}
use Rattle.semantics.specs.ShardPlan.{plan_at}
use Rattle.semantics.specs.History.{shard_of_call, meets, IsJournalFull, IsLegalJournal, IsLegalStep}
use Rattle.semantics.specs.System.{Setting, SystemState, SystemEvent, Controls, Reclaims, WorkerState, Idle, worker_state, history_of, with_entry, after_call, MayCall, CanHappen, after_event, opening_system}
use Rattle.semantics.proofs.shared.SystemSteps.{same_everywhere}
use Rattle.shards.specs.declared.deeds.Deed.{Deed}
use Rattle.shards.specs.declared.deeds.Deed.TheVariants.{Wrote, MetFull}
use Rattle.shards.specs.Deeds.{shard_of_deed, entries_made, made_on}
use Rattle.semantics.specs.Events.{Ending, controlled, reclaimed, answers_of_event, answered, ended_by}
use Rattle.guarantees.specs.Steps.{AskedOfShard, Writes, TurnedAway, Move, AreSteps, entries_asked, deeds_asked, deeds_in}
use Rattle.guarantees.specs.Moves.{IsAskedSo, after_asked, is_event_of}
use Rattle.guarantees.specs.Merging.{IsOrderOfMoves, IsWrittenNext, AreWrittenInOrder, events_of, IsOneList, OneOrderIsOneList}
use Rattle.guarantees.specs.InParts.{call_of_deed}
use Rattle.guarantees.proofs.EndLemmas.{ends_in, Walk, no_end}
use Rattle.guarantees.proofs.AnswerLemmas.{then_ended, then_answered, then_controlled, then_reclaimed, none_ended, none_answered, none_controlled, none_reclaimed}
use Rattle.guarantees.proofs.LegalEntries.{entry_is_legal}
use Rattle.guarantees.proofs.MoveLemmas.{numbered}
use Rattle.actors.proofs.shared.DeedLemmas.{is_deed_by, made_append, met_at}
use Rattle.guarantees.proofs.MergeEvents.{HappenFrom, then_happen, then_written, entries_are, lead, AreOwn, own_stay, own_go, Advance, advance, RunsOut, runs_out}
use Rattle.guarantees.proofs.MergeCalls.{IsAtPlace, worker_at, answers_at, controller_changes_keys, reclaimer_reclaims, served, may_call, answer_served, IsLookAt, may_look, turned_away, no_answer}
use Rattle.guarantees.proofs.AfterDeeds.{put, put_there, put_other, HaveHistories, after_entry, after_look, asked_shards}
use Rattle.guarantees.proofs.Heard.{is_heard, heard, answer_of_deed, heard_more, heard_less}

-- ---- where the order has come to

record Stands (setting : Setting) (count : ℕ) (deeds earlier later : List Deed) (system : SystemState) (rest : ℕ → List Move)
    (ends : ℕ → List Ending) : Type 0 where
  split : deeds ≡ earlier ++ later
  within : AllByRecursion (λ (deed : Deed). shard_of_deed deed < count) later
  eight : length system.workers ≡ 8
  shards : length system.histories ≡ count
  histories : (number : ℕ) → number < count → history_of system number ≡ reverse (made_on number earlier)
  walks : (worker : ℕ) → Walk setting count worker (worker_state system worker) (rest worker) (ends worker)
  own : (worker : ℕ) → worker < setting.options.workers → deeds_in worker (rest worker) ≡ filter (is_deed_by worker) later
  none : (worker : ℕ) → setting.options.workers ≤ worker → rest worker ≡ []

record Merged (setting : Setting) (plan : ℕ → ShardPlan) (count : ℕ) (deeds later : List Deed) (system : SystemState) (rest : ℕ → List Move)
    (ends : ℕ → List Ending) : Type 0 where
  events : List SystemEvent
  last : SystemState
  happen : HappenFrom setting system events last
  written : AreWrittenInOrder setting system events (entries_made later)
  of_each : (worker : ℕ) → filter (is_event_of worker) events ≡ events_of (rest worker)
  ended : (worker : ℕ) → ended_by setting worker system events ≡ ends worker
  called : controlled events ≡ map call_of_deed (heard plan Controller later)
  answers : answered setting system events ≡ map answer_of_deed (heard plan Controller later)
  gone_over : reclaimed events ≡ map shard_of_deed (heard plan Reclaimer later)
  histories : (number : ℕ) → number < count → history_of last number ≡ reverse (made_on number deeds)
  idle : (worker : ℕ) → worker_state last worker ≡ Idle

-- a deed by neither the controller nor the reclaimer, or by none that is an event
record IsUnheard (plan : ℕ → ShardPlan) (whole later : List Deed) : Type 0 where
  calls : heard plan Controller later ≡ heard plan Controller whole
  rounds : heard plan Reclaimer later ≡ heard plan Reclaimer whole

-- events of one worker, and then the rest
go_on : (setting : Setting) (plan : ℕ → ShardPlan) (count worker : ℕ) (deeds whole later : List Deed) (system after : SystemState) (rest : ℕ → List Move)
    (ends : ℕ → List Ending) (moves : List Move) (last_ends : List Ending) (done : List SystemEvent) (first : List Entry) →
    HappenFrom setting system done after → AreWrittenInOrder setting system done first → AreOwn worker done →
    events_of (rest worker) ≡ done ++ events_of moves → ended_by setting worker system done ++ last_ends ≡ ends worker →
    first ++ entries_made later ≡ entries_made whole → IsUnheard plan whole later →
    Merged setting plan count deeds later after (put worker moves rest) (put worker last_ends ends) →
    Merged setting plan count deeds whole system rest ends
go_on setting plan count worker deeds whole later system after rest ends moves last_ends done first happen written own parts ended entries unheard merged =
    record {
      events = done ++ merged.events;
      last = merged.last;
      happen = then_happen setting system after merged.last done merged.events happen merged.happen;
      written = subst (λ (list : List Entry). AreWrittenInOrder setting system (done ++ merged.events) list) entries
          (then_written setting system after done merged.events first (entries_made later) happen written merged.written);
      of_each = λ other. filter-append (is_event_of other) done merged.events
          ∙ ap (λ (list : List SystemEvent). filter (is_event_of other) done ++ list) (merged.of_each other)
          ∙ ⊎_elim
          (λ same.
          subst (λ (one : ℕ). filter (is_event_of one) done ++ events_of (put worker moves rest one) ≡ events_of (rest one)) (sym same)
          (ap (λ (list : List SystemEvent). list ++ events_of (put worker moves rest worker)) (own_stay worker done own)
          ∙ ap (λ (list : List Move). done ++ events_of list) (put_there worker moves rest) ∙ sym parts))
          (λ apart.
          ap (λ (list : List SystemEvent). list ++ events_of (put worker moves rest other)) (own_go worker other done apart own)
          ∙ ap events_of (put_other worker other moves rest apart))
          (cases_eq other worker);
      ended = λ other. then_ended setting other system after done merged.events happen
          ∙ ap (λ (list : List Ending). ended_by setting other system done ++ list) (merged.ended other)
          ∙ ⊎_elim
          (λ same.
          subst (λ (one : ℕ). ended_by setting one system done ++ put worker last_ends ends one ≡ ends one) (sym same)
          (ap (λ (list : List Ending). ended_by setting worker system done ++ list) (put_there worker last_ends ends) ∙ ended))
          (λ apart.
          ap (λ (list : List Ending). list ++ put worker last_ends ends other) (none_ended setting worker other system done apart own)
          ∙ put_other worker other last_ends ends apart)
          (cases_eq other worker);
      called = then_controlled done merged.events ∙ ap (λ (list : List Call). list ++ controlled merged.events) (none_controlled worker done own)
          ∙ merged.called ∙ ap (map call_of_deed) unheard.calls;
      answers = then_answered setting system after done merged.events happen
          ∙ ap (λ (list : List (Option Reply)). list ++ answered setting after merged.events) (none_answered setting worker system done own)
          ∙ merged.answers ∙ ap (map answer_of_deed) unheard.calls;
      gone_over = then_reclaimed done merged.events ∙ ap (λ (list : List ℕ). list ++ reclaimed merged.events) (none_reclaimed worker done own)
          ∙ merged.gone_over ∙ ap (map shard_of_deed) unheard.rounds;
      histories = merged.histories;
      idle = merged.idle;
    }

-- what an event of the controller or the reclaimer is of its deed
record IsHeardSo (setting : Setting) (plan : ℕ → ShardPlan) (system : SystemState) (event : SystemEvent) (whole later : List Deed) : Type 0 where
  nobody : (worker : ℕ) → is_event_of worker event ≡ false
  calls : controlled (event ∷ []) ++ map call_of_deed (heard plan Controller later) ≡ map call_of_deed (heard plan Controller whole)
  answers : answers_of_event setting system event ++ map answer_of_deed (heard plan Controller later) ≡ map answer_of_deed (heard plan Controller whole)
  rounds : reclaimed (event ∷ []) ++ map shard_of_deed (heard plan Reclaimer later) ≡ map shard_of_deed (heard plan Reclaimer whole)

-- an event of no worker, and then the rest
go_by : (setting : Setting) (plan : ℕ → ShardPlan) (count : ℕ) (deeds whole later : List Deed) (system : SystemState) (rest : ℕ → List Move)
    (ends : ℕ → List Ending) (event : SystemEvent) (first : List Entry) → CanHappen setting system event →
    IsWrittenNext system first (after_event setting system event) → first ++ entries_made later ≡ entries_made whole →
    IsHeardSo setting plan system event whole later → Merged setting plan count deeds later (after_event setting system event) rest ends →
    Merged setting plan count deeds whole system rest ends
go_by setting plan count deeds whole later system rest ends event first can written entries is merged = record {
  events = event ∷ merged.events;
  last = merged.last;
  happen = (can, merged.happen);
  written = (first, entries_made later, sym entries, written, merged.written);
  of_each = λ worker.
      ap (λ (test : Bool). cond test (event ∷ filter (is_event_of worker) merged.events) (filter (is_event_of worker) merged.events)) (is.nobody worker)
      ∙ merged.of_each worker;
  ended = λ worker.
      ap (λ (list : List Ending). list ++ ended_by setting worker (after_event setting system event) merged.events)
      (no_end setting worker system event (is.nobody worker))
      ∙ merged.ended worker;
  called = then_controlled (event ∷ []) merged.events ∙ ap (λ (list : List Call). controlled (event ∷ []) ++ list) merged.called ∙ is.calls;
  answers = ap (λ (list : List (Option Reply)). answers_of_event setting system event ++ list) merged.answers ∙ is.answers;
  gone_over = then_reclaimed (event ∷ []) merged.events ∙ ap (λ (list : List ℕ). reclaimed (event ∷ []) ++ list) merged.gone_over ∙ is.rounds;
  histories = merged.histories;
  idle = merged.idle;
}

-- a deed that is no event
go_past : (setting : Setting) (plan : ℕ → ShardPlan) (count : ℕ) (deeds whole later : List Deed) (system : SystemState) (rest : ℕ → List Move)
    (ends : ℕ → List Ending) → entries_made later ≡ entries_made whole → IsUnheard plan whole later →
    Merged setting plan count deeds later system rest ends → Merged setting plan count deeds whole system rest ends
go_past setting plan count deeds whole later system rest ends entries unheard merged = record {
  events = merged.events;
  last = merged.last;
  happen = merged.happen;
  written = subst (λ (list : List Entry). AreWrittenInOrder setting system merged.events list) entries merged.written;
  of_each = merged.of_each;
  ended = merged.ended;
  called = merged.called ∙ ap (map call_of_deed) unheard.calls;
  answers = merged.answers ∙ ap (map answer_of_deed) unheard.calls;
  gone_over = merged.gone_over ∙ ap (map shard_of_deed) unheard.rounds;
  histories = merged.histories;
  idle = merged.idle;
}

-- ---- at the end of the order the workers do their last instructions, one worker after the other

walks_at : (setting : Setting) (count worker other : ℕ) (before after : SystemState) (moves : List Move) (rest : ℕ → List Move)
    (last_ends : List Ending) (ends : ℕ → List Ending) → Walk setting count worker (worker_state after worker) moves last_ends →
    ((one : ℕ) → one ≢ worker → worker_state after one ≡ worker_state before one) →
    ((one : ℕ) → Walk setting count one (worker_state before one) (rest one) (ends one)) →
    Walk setting count other (worker_state after other) (put worker moves rest other) (put worker last_ends ends other)
walks_at setting count worker other before after moves rest last_ends ends here others walks = ⊎_elim
    (λ same. subst (λ (one : ℕ). Walk setting count one (worker_state after one) (put worker moves rest one) (put worker last_ends ends one)) (sym same)
    (subst (λ (list : List Move). Walk setting count worker (worker_state after worker) list (put worker last_ends ends worker)) (sym (put_there worker moves rest))
    (subst (λ (list : List Ending). Walk setting count worker (worker_state after worker) moves list) (sym (put_there worker last_ends ends)) here)))
    (λ apart.
    subst (λ (list : List Move). Walk setting count other (worker_state after other) list (put worker last_ends ends other)) (sym (put_other worker other moves rest apart))
    (subst (λ (list : List Ending). Walk setting count other (worker_state after other) (rest other) list) (sym (put_other worker other last_ends ends apart))
    (subst (λ (state : WorkerState). Walk setting count other state (rest other) (ends other)) (sym (others other apart)) (walks other))))
    (cases_eq other worker)

abbrev OnlyBelow : ℕ → (ℕ → List Move) → Type 0
OnlyBelow most rest = (worker : ℕ) → most ≤ worker → rest worker ≡ []

finish : (setting : Setting) (plan : ℕ → ShardPlan) (count : ℕ) (deeds : List Deed) (most : ℕ) → setting.options.workers ≤ 8 →
    most ≤ setting.options.workers → (system : SystemState) (rest : ℕ → List Move) (ends : ℕ → List Ending) →
    Stands setting count deeds deeds [] system rest ends → OnlyBelow most rest → Merged setting plan count deeds [] system rest ends
finish setting plan count deeds zero small fits system rest ends stands none =
    let still : (worker : ℕ) → Walk setting count worker (worker_state system worker) [] (ends worker) =
    λ worker. subst (λ (list : List Move). Walk setting count worker (worker_state system worker) list (ends worker)) (none worker (omega arith))
    (stands.walks worker) in
    record {
      events = [];
      last = system;
      happen = refl;
      written = refl;
      of_each = λ worker. ap events_of (sym (none worker (omega arith)));
      ended = λ worker. (still worker).ends_are;
      called = refl;
      answers = refl;
      gone_over = refl;
      histories = stands.histories;
      idle = λ worker. (still worker).steps;
    }
finish setting plan count deeds (suc most) small fits system rest ends stands none =
    let eight : length system.workers ≡ 8 = stands.eight in
    let few : most < length system.workers = omega (arith, fits, small, eight) in
    let out : RunsOut setting most system (rest most) (ends most) =
    runs_out setting count most (rest most) system (ends most) few (stands.own most (omega (arith, fits))) (stands.walks most) in
    go_on setting plan count most deeds [] [] system out.after rest ends [] [] (events_of (rest most)) [] out.happen out.written out.own
    (sym (append-nil (events_of (rest most)))) (append-nil (ended_by setting most system (events_of (rest most))) ∙ out.ended) refl
    (record { calls = refl; rounds = refl })
    (finish setting plan count deeds most small (omega (arith, fits)) out.after (put most [] rest) (put most [] ends)
    (record {
      split = stands.split;
      within = tt;
      eight = out.eight ∙ stands.eight;
      shards = ap length out.histories ∙ stands.shards;
      histories = λ number within. ap (λ list. slice_index_or list number []) out.histories ∙ stands.histories number within;
      walks = λ other. walks_at setting count most other system out.after [] rest [] ends (record { steps = out.idle; ends_are = refl }) out.others stands.walks;
      own = λ other below. ⊎_elim
          (λ same. subst (λ (one : ℕ). deeds_in one (put most [] rest one) ≡ []) (sym same) (ap (deeds_in most) (put_there most [] rest)))
          (λ apart. ap (deeds_in other) (put_other most other [] rest apart) ∙ stands.own other below)
          (cases_eq other most);
      none = λ worker past. put_other most worker [] rest (λ same. omega (arith, same, past, fits)) ∙ stands.none worker past;
    })
    (λ worker past. ⊎_elim
    (λ same. subst (λ (one : ℕ). put most [] rest one ≡ []) (sym same) (put_there most [] rest))
    (λ apart. put_other most worker [] rest apart ∙ none worker (further most worker past apart))
    (cases_eq worker most)))
  where
    further : (most worker : ℕ) → most ≤ worker → worker ≢ most → suc most ≤ worker
    further most worker past apart = grind (arith, past, apart)

-- ---- a worker's deed

abbrev MergesFrom : Setting → (ℕ → ShardPlan) → ℕ → List Deed → List Deed → List Deed → Type 0
MergesFrom setting plan count deeds earlier later =
    (system : SystemState) (rest : ℕ → List Move) (ends : ℕ → List Ending) → Stands setting count deeds earlier later system rest ends →
    Merged setting plan count deeds later system rest ends

by_worker : (setting : Setting) (plan : ℕ → ShardPlan) (count worker : ℕ) (deeds earlier later : List Deed) (deed : Deed) (asked : AskedOfShard)
    (system : SystemState) (rest : ℕ → List Move) (ends : ℕ → List Ending) → setting.options.workers ≤ 8 → worker < setting.options.workers →
    Stands setting count deeds earlier (deed ∷ later) system rest ends → deeds_asked worker asked ≡ deed ∷ [] → is_deed_by worker deed ≡ true →
    ((other : ℕ) → other ≢ worker → is_deed_by other deed ≡ false) → IsUnheard plan (deed ∷ later) later → IsAskedSo setting system asked →
    ((after : SystemState) → after.histories ≡ (after_asked system asked).histories → HaveHistories count (earlier ++ deed ∷ []) after) →
    MergesFrom setting plan count deeds (earlier ++ deed ∷ []) later → Merged setting plan count deeds (deed ∷ later) system rest ends
by_worker setting plan count worker deeds earlier later deed asked system rest ends small below stands one own_deed not_others unheard asks histories onward =
    let made : deeds_in worker (rest worker) ≡ deed ∷ filter (is_deed_by worker) later =
    stands.own worker below
    ∙ ap (λ (test : Bool). cond test (deed ∷ filter (is_deed_by worker) later) (filter (is_deed_by worker) later)) own_deed in
    let eight : length system.workers ≡ 8 = stands.eight in
    let few : worker < length system.workers = omega (arith, below, small, eight) in
    let ahead : Advance setting count worker system (rest worker) asked (filter (is_deed_by worker) later) (ends worker) =
    advance setting count worker asked deed (filter (is_deed_by worker) later) (rest worker) system (ends worker) few one asks made (stands.walks worker) in
    let parts : entries_asked asked ++ entries_made later ≡ entries_made (deed ∷ later) =
    sym (entries_are worker asked later (entries_made later) refl) ∙ ap (λ (list : List Deed). entries_made (list ++ later)) one in
    go_on setting plan count worker deeds (deed ∷ later) later system ahead.after rest ends ahead.rest ahead.rest_ends (events_of ahead.done)
    (entries_asked asked) ahead.happen ahead.written ahead.own ahead.parts ahead.ended parts unheard
    (onward ahead.after (put worker ahead.rest rest) (put worker ahead.rest_ends ends)
    (record {
      split = stands.split ∙ sym (append_assoc earlier (deed ∷ []) later);
      within = stands.within.1;
      eight = ahead.eight ∙ stands.eight;
      shards = ap length ahead.histories ∙ asked_shards system asked ∙ stands.shards;
      histories = histories ahead.after ahead.histories;
      walks = λ other. walks_at setting count worker other system ahead.after ahead.rest rest ahead.rest_ends ends ahead.walk ahead.others stands.walks;
      own = λ other among. ⊎_elim
          (λ same. subst (λ (n : ℕ). deeds_in n (put worker ahead.rest rest n) ≡ filter (is_deed_by n) later) (sym same)
          (ap (deeds_in worker) (put_there worker ahead.rest rest) ∙ ahead.deeds))
          (λ apart. ap (deeds_in other) (put_other worker other ahead.rest rest apart) ∙ stands.own other among
          ∙ ap (λ (test : Bool). cond test (deed ∷ filter (is_deed_by other) later) (filter (is_deed_by other) later)) (not_others other apart))
          (cases_eq other worker);
      none = λ other past. put_other worker other ahead.rest rest (λ same. omega (arith, same, past, below)) ∙ stands.none other past;
    }))

-- behind a look at a full journal by no worker of the options
behind_look : (setting : Setting) (count : ℕ) (deeds earlier later : List Deed) (deed : Deed) (system : SystemState) (rest : ℕ → List Move)
    (ends : ℕ → List Ending) → Stands setting count deeds earlier (deed ∷ later) system rest ends →
    ((worker : ℕ) → worker < setting.options.workers → is_deed_by worker deed ≡ false) → HaveHistories count (earlier ++ deed ∷ []) system →
    Stands setting count deeds (earlier ++ deed ∷ []) later system rest ends
behind_look setting count deeds earlier later deed system rest ends stands not_theirs histories = record {
  split = stands.split ∙ sym (append_assoc earlier (deed ∷ []) later);
  within = stands.within.1;
  eight = stands.eight;
  shards = stands.shards;
  histories = histories;
  walks = stands.walks;
  own = λ worker below. stands.own worker below
      ∙ ap (λ (test : Bool). cond test (deed ∷ filter (is_deed_by worker) later) (filter (is_deed_by worker) later)) (not_theirs worker below);
  none = stands.none;
}

-- one that is no event
passed_over : (setting : Setting) (plan : ℕ → ShardPlan) (count : ℕ) (deeds earlier later : List Deed) (deed : Deed) (system : SystemState)
    (rest : ℕ → List Move) (ends : ℕ → List Ending) → Stands setting count deeds earlier (deed ∷ later) system rest ends →
    ((worker : ℕ) → worker < setting.options.workers → is_deed_by worker deed ≡ false) → HaveHistories count (earlier ++ deed ∷ []) system →
    entries_made later ≡ entries_made (deed ∷ later) → IsUnheard plan (deed ∷ later) later →
    MergesFrom setting plan count deeds (earlier ++ deed ∷ []) later → Merged setting plan count deeds (deed ∷ later) system rest ends
passed_over setting plan count deeds earlier later deed system rest ends stands not_theirs histories nothing unheard onward =
    go_past setting plan count deeds (deed ∷ later) later system rest ends nothing unheard
    (onward system rest ends (behind_look setting count deeds earlier later deed system rest ends stands not_theirs histories))

-- ---- what a deed meets at its own place

at_place : (setting : Setting) (plan : ℕ → ShardPlan) (count : ℕ) (journal : ℕ → List Entry) (moves : ℕ → List Move) (deeds earlier later : List Deed)
    (entry : Entry) (system : SystemState) (rest : ℕ → List Move) (ends : ℕ → List Ending) → IsOrderOfMoves setting plan count journal moves deeds →
    Stands setting count deeds earlier (Wrote entry ∷ later) system rest ends →
    IsAtPlace setting (plan (shard_of_call entry.call)) system entry
at_place setting plan count journal moves deeds earlier later entry system rest ends order stands =
    let shard : ℕ = shard_of_call entry.call in
    let within : shard < count = stands.within.0 in
    let same : (shard == shard) ≡ true = grind (arith, nat_tests) in
    let parts : made_on shard deeds ≡ made_on shard earlier ++ entry ∷ made_on shard later =
    ap (made_on shard) stands.split ∙ made_append shard earlier (Wrote entry ∷ later)
    ∙ ap (λ (test : Bool). made_on shard earlier ++ cond test (entry ∷ made_on shard later) (made_on shard later)) same in
    let legal : IsLegalJournal (plan shard) (made_on shard earlier ++ entry ∷ made_on shard later) =
    subst (IsLegalJournal (plan shard)) (sym (order.journals shard within) ∙ parts) (order.legal shard within) in
    let step : IsLegalStep (plan shard) (reverse (made_on shard earlier)) entry =
    entry_is_legal (plan shard) (made_on shard earlier) (made_on shard later) entry legal in
    let known : plan_at setting.maps setting.options shard ≡ Some (plan shard) = order.plans shard within in
    let history : history_of system (plan shard).number ≡ reverse (made_on shard earlier) =
    ap (history_of system) (numbered setting shard (plan shard) known) ∙ stands.histories shard within in
    record { known = known; step = subst (λ (list : List Entry). IsLegalStep (plan shard) list entry) (sym history) step }

-- where the order stands behind what one that is no worker wrote
behind_entry : (setting : Setting) (count : ℕ) (deeds earlier later : List Deed) (entry : Entry) (system : SystemState) (rest : ℕ → List Move)
    (ends : ℕ → List Ending) → Stands setting count deeds earlier (Wrote entry ∷ later) system rest ends →
    ((worker : ℕ) → is_deed_by worker (Wrote entry) ≡ false) →
    Stands setting count deeds (earlier ++ Wrote entry ∷ []) later (with_entry system (shard_of_call entry.call) entry) rest ends
behind_entry setting count deeds earlier later entry system rest ends stands not_theirs = record {
  split = stands.split ∙ sym (append_assoc earlier (Wrote entry ∷ []) later);
  within = stands.within.1;
  eight = stands.eight;
  shards = asked_shards system (Writes entry) ∙ stands.shards;
  histories = after_entry count earlier system (with_entry system (shard_of_call entry.call) entry) entry stands.shards stands.within.0 stands.histories refl;
  walks = stands.walks;
  own = λ worker below. stands.own worker below
      ∙ ap (λ (test : Bool). cond test (Wrote entry ∷ filter (is_deed_by worker) later) (filter (is_deed_by worker) later)) (not_theirs worker);
  none = stands.none;
}

by_nobody : (setting : Setting) (plan : ℕ → ShardPlan) (count : ℕ) (deeds earlier later : List Deed) (entry : Entry) (event : SystemEvent)
    (system : SystemState) (rest : ℕ → List Move) (ends : ℕ → List Ending) → Stands setting count deeds earlier (Wrote entry ∷ later) system rest ends →
    CanHappen setting system event → after_event setting system event ≡ with_entry system (shard_of_call entry.call) entry →
    IsHeardSo setting plan system event (Wrote entry ∷ later) later → ((worker : ℕ) → is_deed_by worker (Wrote entry) ≡ false) →
    MergesFrom setting plan count deeds (earlier ++ Wrote entry ∷ []) later → Merged setting plan count deeds (Wrote entry ∷ later) system rest ends
by_nobody setting plan count deeds earlier later entry event system rest ends stands can leads is not_theirs onward =
    go_by setting plan count deeds (Wrote entry ∷ later) later system rest ends event (entry ∷ []) can (ap (λ (here : SystemState). here.histories) leads) refl is
    (subst (λ (here : SystemState). Merged setting plan count deeds later here rest ends) (sym leads)
    (onward (with_entry system (shard_of_call entry.call) entry) rest ends
    (behind_entry setting count deeds earlier later entry system rest ends stands not_theirs)))

-- ---- every deed

written_by : (who one : Caller) (plan : ℕ → ShardPlan) (entry : Entry) (test : Bool) → entry.who ≡ one → is_caller who one ≡ test →
    is_heard plan who (Wrote entry) ≡ test
written_by who one plan entry true is by = ap (λ (other : Caller). is_caller who other && true) is ∙ ap (λ (own : Bool). own && true) by
written_by who one plan entry false is by = ap (λ (other : Caller). is_caller who other && true) is ∙ ap (λ (own : Bool). own && true) by

-- what the controller wrote is its event
record IsControlled (setting : Setting) (plan : ℕ → ShardPlan) (system : SystemState) (entry : Entry) (later : List Deed) : Type 0 where
  can : CanHappen setting system (Controls entry.call)
  leads : after_event setting system (Controls entry.call) ≡ with_entry system (shard_of_call entry.call) entry
  heard : IsHeardSo setting plan system (Controls entry.call) (Wrote entry ∷ later) later
  not_theirs : (worker : ℕ) → is_deed_by worker (Wrote entry) ≡ false

controls_so : (setting : Setting) (plan : ℕ → ShardPlan) (count : ℕ) (journal : ℕ → List Entry) (moves : ℕ → List Move) (deeds earlier later : List Deed)
    (entry : Entry) (system : SystemState) (rest : ℕ → List Move) (ends : ℕ → List Ending) → IsOrderOfMoves setting plan count journal moves deeds →
    Stands setting count deeds earlier (Wrote entry ∷ later) system rest ends → entry.who ≡ Controller → IsControlled setting plan system entry later
controls_so setting plan count journal moves deeds earlier later entry system rest ends order stands is =
    let place = at_place setting plan count journal moves deeds earlier later entry system rest ends order stands in
    let own = heard_more plan Controller (Wrote entry) later (written_by Controller Controller plan entry true is refl) in
    record {
      can = (
        controller_changes_keys (plan (shard_of_call entry.call)) (history_of system (plan (shard_of_call entry.call)).number) entry.call
            (subst (λ (one : Caller). IsTrue (meets (plan (shard_of_call entry.call)) (history_of system (plan (shard_of_call entry.call)).number) one entry.call))
            is place.step.step.met),
        may_call setting (plan (shard_of_call entry.call)) system entry Controller is place,
      );
      leads = served setting (plan (shard_of_call entry.call)) system entry Controller is place;
      heard = record {
        nobody = λ worker. refl;
        calls = ap (map call_of_deed) (sym own);
        answers = ap (λ (one : Option Reply). one ∷ map answer_of_deed (heard plan Controller later))
            (answer_served setting (plan (shard_of_call entry.call)) system entry Controller is place) ∙ ap (map answer_of_deed) (sym own);
        rounds = ap (map shard_of_deed) (sym (heard_less plan Reclaimer (Wrote entry) later (written_by Reclaimer Controller plan entry false is refl)));
      };
      not_theirs = λ worker. ap (is_worker worker) is;
    }

wrote : (setting : Setting) (plan : ℕ → ShardPlan) (count : ℕ) (journal : ℕ → List Entry) (moves : ℕ → List Move) (deeds earlier later : List Deed)
    (entry : Entry) (system : SystemState) (rest : ℕ → List Move) (ends : ℕ → List Ending) → IsOrderOfMoves setting plan count journal moves deeds →
    Stands setting count deeds earlier (Wrote entry ∷ later) system rest ends → MergesFrom setting plan count deeds (earlier ++ Wrote entry ∷ []) later →
    (who : Caller) → entry.who ≡ who → Merged setting plan count deeds (Wrote entry ∷ later) system rest ends
wrote setting plan count journal moves deeds earlier later entry system rest ends order stands onward (Worker worker) is =
    let place = at_place setting plan count journal moves deeds earlier later entry system rest ends order stands in
    let same : (worker == worker) ≡ true = grind (arith, nat_tests) in
    by_worker setting plan count worker deeds earlier later (Wrote entry) (Writes entry) system rest ends order.options.at_most_eight
    (worker_at setting (plan (shard_of_call entry.call)) system entry worker is place) stands refl
    (ap (is_worker worker) is ∙ same)
    (λ other apart. ap (is_worker other) is ∙ ne_eqb worker other (λ same. apart (sym same)))
    (record {
      calls = sym (heard_less plan Controller (Wrote entry) later (written_by Controller (Worker worker) plan entry false is refl));
      rounds = sym (heard_less plan Reclaimer (Wrote entry) later (written_by Reclaimer (Worker worker) plan entry false is refl));
    })
    (answers_at setting (plan (shard_of_call entry.call)) system entry place)
    (λ after same. after_entry count earlier system after entry stands.shards stands.within.0 stands.histories same)
    onward
wrote setting plan count journal moves deeds earlier later entry system rest ends order stands onward Controller is =
    let so = controls_so setting plan count journal moves deeds earlier later entry system rest ends order stands is in
    by_nobody setting plan count deeds earlier later entry (Controls entry.call) system rest ends stands so.can so.leads so.heard so.not_theirs onward
wrote setting plan count journal moves deeds earlier later entry system rest ends order stands onward Reclaimer is =
    let place = at_place setting plan count journal moves deeds earlier later entry system rest ends order stands in
    let shard : ℕ = shard_of_call entry.call in
    let none = sym (heard_less plan Controller (Wrote entry) later (written_by Controller Reclaimer plan entry false is refl)) in
    let reclaims : entry.call ≡ Reclaim shard =
    reclaimer_reclaims (plan shard) (history_of system (plan shard).number) entry.call
    (subst (λ (one : Caller). IsTrue (meets (plan shard) (history_of system (plan shard).number) one entry.call)) is place.step.step.met) in
    by_nobody setting plan count deeds earlier later entry (Reclaims shard) system rest ends stands
    (subst (λ (call : Call). MayCall (plan_at setting.maps setting.options shard) system Reclaimer call) reclaims
    (may_call setting (plan shard) system entry Reclaimer is place))
    (ap (λ (call : Call). after_call (plan_at setting.maps setting.options shard) system Reclaimer call) (sym reclaims)
    ∙ served setting (plan shard) system entry Reclaimer is place)
    (record {
      nobody = λ worker. refl;
      calls = ap (map call_of_deed) none;
      answers = ap (map answer_of_deed) none;
      rounds = ap (map shard_of_deed) (sym (heard_more plan Reclaimer (Wrote entry) later (written_by Reclaimer Reclaimer plan entry true is refl)));
    })
    (λ worker. ap (is_worker worker) is) onward

-- ---- looks at full journals

look_at : (setting : Setting) (plan : ℕ → ShardPlan) (count : ℕ) (journal : ℕ → List Entry) (moves : ℕ → List Move) (deeds earlier later : List Deed)
    (who : Caller) (call : Call) (system : SystemState) (rest : ℕ → List Move) (ends : ℕ → List Ending) →
    IsOrderOfMoves setting plan count journal moves deeds → Stands setting count deeds earlier (MetFull who call ∷ later) system rest ends →
    IsLookAt setting (plan (shard_of_call call)) system call
look_at setting plan count journal moves deeds earlier later who call system rest ends order stands =
    let shard : ℕ = shard_of_call call in
    let known : plan_at setting.maps setting.options shard ≡ Some (plan shard) = order.plans shard stands.within.0 in
    let history : history_of system (plan shard).number ≡ reverse (made_on shard earlier) =
    ap (history_of system) (numbered setting shard (plan shard) known) ∙ stands.histories shard stands.within.0 in
    record {
      known = known;
      full = subst (λ (list : List Entry). IsJournalFull (plan shard) list call) (sym history)
          (met_at plan deeds earlier later who call stands.split order.met);
    }

looked : (setting : Setting) (plan : ℕ → ShardPlan) (count : ℕ) (journal : ℕ → List Entry) (moves : ℕ → List Move) (deeds earlier later : List Deed)
    (worker : ℕ) (call : Call) (system : SystemState) (rest : ℕ → List Move) (ends : ℕ → List Ending) →
    IsOrderOfMoves setting plan count journal moves deeds → worker < setting.options.workers →
    Stands setting count deeds earlier (MetFull (Worker worker) call ∷ later) system rest ends →
    MergesFrom setting plan count deeds (earlier ++ MetFull (Worker worker) call ∷ []) later →
    Merged setting plan count deeds (MetFull (Worker worker) call ∷ later) system rest ends
looked setting plan count journal moves deeds earlier later worker call system rest ends order below stands onward =
    let same : (worker == worker) ≡ true = grind (arith, nat_tests) in
    let at = look_at setting plan count journal moves deeds earlier later (Worker worker) call system rest ends order stands in
    by_worker setting plan count worker deeds earlier later (MetFull (Worker worker) call) (TurnedAway call) system rest ends order.options.at_most_eight below
    stands refl same
    (λ other apart. ne_eqb worker other (λ same. apart (sym same)))
    (record { calls = refl; rounds = refl })
    (record { plan = plan (shard_of_call call); known = at.known; full = at.full })
    (λ after same. after_look count earlier system after (Worker worker) call stands.histories same)
    onward

look_by_nobody : (setting : Setting) (plan : ℕ → ShardPlan) (count : ℕ) (deeds earlier later : List Deed) (who : Caller) (call : Call)
    (event : SystemEvent) (system : SystemState) (rest : ℕ → List Move) (ends : ℕ → List Ending) →
    Stands setting count deeds earlier (MetFull who call ∷ later) system rest ends → CanHappen setting system event →
    after_event setting system event ≡ system → IsHeardSo setting plan system event (MetFull who call ∷ later) later →
    ((worker : ℕ) → worker < setting.options.workers → is_deed_by worker (MetFull who call) ≡ false) →
    MergesFrom setting plan count deeds (earlier ++ MetFull who call ∷ []) later → Merged setting plan count deeds (MetFull who call ∷ later) system rest ends
look_by_nobody setting plan count deeds earlier later who call event system rest ends stands can leads is not_theirs onward =
    go_by setting plan count deeds (MetFull who call ∷ later) later system rest ends event [] can (ap (λ (here : SystemState). here.histories) leads) refl is
    (subst (λ (here : SystemState). Merged setting plan count deeds later here rest ends) (sym leads)
    (onward system rest ends
    (behind_look setting count deeds earlier later (MetFull who call) system rest ends stands not_theirs
    (after_look count earlier system system who call stands.histories refl))))

controller_looks : (setting : Setting) (plan : ℕ → ShardPlan) (count : ℕ) (deeds earlier later : List Deed) (call : Call) (system : SystemState)
    (rest : ℕ → List Move) (ends : ℕ → List Ending) → Stands setting count deeds earlier (MetFull Controller call ∷ later) system rest ends →
    IsLookAt setting (plan (shard_of_call call)) system call → MergesFrom setting plan count deeds (earlier ++ MetFull Controller call ∷ []) later →
    (test : Bool) → meets (plan (shard_of_call call)) [] Controller call ≡ test →
    Merged setting plan count deeds (MetFull Controller call ∷ later) system rest ends
controller_looks setting plan count deeds earlier later call system rest ends stands at onward true may =
    let own = heard_more plan Controller (MetFull Controller call) later may in
    look_by_nobody setting plan count deeds earlier later Controller call (Controls call) system rest ends stands (
      controller_changes_keys (plan (shard_of_call call)) [] call may,
      may_look setting (plan (shard_of_call call)) system Controller call tt at may,
    )
    (turned_away setting (plan (shard_of_call call)) system Controller call at)
    (record {
      nobody = λ worker. refl;
      calls = ap (map call_of_deed) (sym own);
      answers = ap (λ (one : Option Reply). one ∷ map answer_of_deed (heard plan Controller later))
          (no_answer setting (plan (shard_of_call call)) system Controller call at) ∙ ap (map answer_of_deed) (sym own);
      rounds = refl;
    })
    (λ worker below. refl) onward
controller_looks setting plan count deeds earlier later call system rest ends stands at onward false may =
    passed_over setting plan count deeds earlier later (MetFull Controller call) system rest ends stands (λ worker below. refl)
    (after_look count earlier system system Controller call stands.histories refl) refl
    (record { calls = sym (heard_less plan Controller (MetFull Controller call) later may); rounds = refl }) onward

reclaimer_looks : (setting : Setting) (plan : ℕ → ShardPlan) (count : ℕ) (deeds earlier later : List Deed) (call : Call) (system : SystemState)
    (rest : ℕ → List Move) (ends : ℕ → List Ending) → Stands setting count deeds earlier (MetFull Reclaimer call ∷ later) system rest ends →
    IsLookAt setting (plan (shard_of_call call)) system call → MergesFrom setting plan count deeds (earlier ++ MetFull Reclaimer call ∷ []) later →
    (test : Bool) → meets (plan (shard_of_call call)) [] Reclaimer call ≡ test →
    Merged setting plan count deeds (MetFull Reclaimer call ∷ later) system rest ends
reclaimer_looks setting plan count deeds earlier later call system rest ends stands at onward true may =
    let shard : ℕ = shard_of_call call in
    let reclaims : call ≡ Reclaim shard = reclaimer_reclaims (plan shard) [] call may in
    look_by_nobody setting plan count deeds earlier later Reclaimer call (Reclaims shard) system rest ends stands
    (subst (λ (one : Call). MayCall (plan_at setting.maps setting.options shard) system Reclaimer one) reclaims
    (may_look setting (plan shard) system Reclaimer call tt at may))
    (ap (λ (one : Call). after_call (plan_at setting.maps setting.options shard) system Reclaimer one) (sym reclaims)
    ∙ turned_away setting (plan shard) system Reclaimer call at)
    (record {
      nobody = λ worker. refl;
      calls = refl;
      answers = refl;
      rounds = ap (map shard_of_deed) (sym (heard_more plan Reclaimer (MetFull Reclaimer call) later may));
    })
    (λ worker below. refl) onward
reclaimer_looks setting plan count deeds earlier later call system rest ends stands at onward false may =
    passed_over setting plan count deeds earlier later (MetFull Reclaimer call) system rest ends stands (λ worker below. refl)
    (after_look count earlier system system Reclaimer call stands.histories refl) refl
    (record { calls = refl; rounds = sym (heard_less plan Reclaimer (MetFull Reclaimer call) later may) }) onward

met_full : (setting : Setting) (plan : ℕ → ShardPlan) (count : ℕ) (journal : ℕ → List Entry) (moves : ℕ → List Move) (deeds earlier later : List Deed)
    (who : Caller) (call : Call) (system : SystemState) (rest : ℕ → List Move) (ends : ℕ → List Ending) →
    IsOrderOfMoves setting plan count journal moves deeds → Stands setting count deeds earlier (MetFull who call ∷ later) system rest ends →
    MergesFrom setting plan count deeds (earlier ++ MetFull who call ∷ []) later → Merged setting plan count deeds (MetFull who call ∷ later) system rest ends
met_full setting plan count journal moves deeds earlier later (Worker worker) call system rest ends order stands onward = ⊎_elim
    (λ (below : worker < setting.options.workers).
    looked setting plan count journal moves deeds earlier later worker call system rest ends order below stands onward)
    (λ (past : setting.options.workers ≤ worker).
    passed_over setting plan count deeds earlier later (MetFull (Worker worker) call) system rest ends stands
    (λ other below. ne_eqb worker other (λ same. omega (arith, same, past, below)))
    (after_look count earlier system system (Worker worker) call stands.histories refl) refl (record { calls = refl; rounds = refl }) onward)
    (cases_lt worker setting.options.workers)
met_full setting plan count journal moves deeds earlier later Controller call system rest ends order stands onward =
    controller_looks setting plan count deeds earlier later call system rest ends stands
    (look_at setting plan count journal moves deeds earlier later Controller call system rest ends order stands) onward
    (meets (plan (shard_of_call call)) [] Controller call) refl
met_full setting plan count journal moves deeds earlier later Reclaimer call system rest ends order stands onward =
    reclaimer_looks setting plan count deeds earlier later call system rest ends stands
    (look_at setting plan count journal moves deeds earlier later Reclaimer call system rest ends order stands) onward
    (meets (plan (shard_of_call call)) [] Reclaimer call) refl

merge : (setting : Setting) (plan : ℕ → ShardPlan) (count : ℕ) (journal : ℕ → List Entry) (moves : ℕ → List Move) (deeds : List Deed) →
    IsOrderOfMoves setting plan count journal moves deeds → (later earlier : List Deed) → MergesFrom setting plan count deeds earlier later
merge setting plan count journal moves deeds order [] earlier system rest ends stands =
    let all : earlier ≡ deeds = sym (stands.split ∙ append-nil earlier) in
    finish setting plan count deeds setting.options.workers order.options.at_most_eight (omega arith) system rest ends
    (subst (λ (list : List Deed). Stands setting count deeds list [] system rest ends) all stands) stands.none
merge setting plan count journal moves deeds order (Wrote entry ∷ later) earlier system rest ends stands =
    wrote setting plan count journal moves deeds earlier later entry system rest ends order stands
    (merge setting plan count journal moves deeds order later (earlier ++ Wrote entry ∷ [])) entry.who refl
merge setting plan count journal moves deeds order (MetFull who call ∷ later) earlier system rest ends stands =
    met_full setting plan count journal moves deeds earlier later who call system rest ends order stands
    (merge setting plan count journal moves deeds order later (earlier ++ MetFull who call ∷ []))

-- ---- what the controller wrote before all others is first among the events

abbrev pub IsFirstOf : List Entry → List SystemEvent → Type 0
IsFirstOf set events = (later : List SystemEvent) × (events ≡ map (λ (entry : Entry). Controls entry.call) set ++ later)

record MergedBehind (setting : Setting) (plan : ℕ → ShardPlan) (count : ℕ) (deeds : List Deed) (set : List Entry) (later : List Deed)
    (system : SystemState) (rest : ℕ → List Move) (ends : ℕ → List Ending) : Type 0 where
  merged : Merged setting plan count deeds (map (λ (entry : Entry). Wrote entry) set ++ later) system rest ends
  first : IsFirstOf set merged.events

merge_behind : (setting : Setting) (plan : ℕ → ShardPlan) (count : ℕ) (journal : ℕ → List Entry) (moves : ℕ → List Move) (deeds : List Deed) →
    IsOrderOfMoves setting plan count journal moves deeds → (later : List Deed) (set : List Entry) →
    AllByRecursion (λ (entry : Entry). entry.who ≡ Controller) set → (earlier : List Deed) (system : SystemState) (rest : ℕ → List Move)
    (ends : ℕ → List Ending) → Stands setting count deeds earlier (map (λ (entry : Entry). Wrote entry) set ++ later) system rest ends →
    MergedBehind setting plan count deeds set later system rest ends
unfolding go_by
merge_behind setting plan count journal moves deeds order later [] all earlier system rest ends stands =
    let merged : Merged setting plan count deeds later system rest ends =
    merge setting plan count journal moves deeds order later earlier system rest ends stands in
    record { merged = merged; first = (merged.events, refl) }
merge_behind setting plan count journal moves deeds order later (entry ∷ set) all earlier system rest ends stands =
    let more : List Deed = map (λ (one : Entry). Wrote one) set ++ later in
    let so = controls_so setting plan count journal moves deeds earlier more entry system rest ends order stands all.0 in
    let onward : MergedBehind setting plan count deeds set later (with_entry system (shard_of_call entry.call) entry) rest ends =
    merge_behind setting plan count journal moves deeds order later set all.1 (earlier ++ Wrote entry ∷ [])
    (with_entry system (shard_of_call entry.call) entry) rest ends
    (behind_entry setting count deeds earlier more entry system rest ends stands so.not_theirs) in
    let there : MergedBehind setting plan count deeds set later (after_event setting system (Controls entry.call)) rest ends =
    subst (λ (here : SystemState). MergedBehind setting plan count deeds set later here rest ends) (sym so.leads) onward in
    record {
      merged = go_by setting plan count deeds (Wrote entry ∷ more) more system rest ends (Controls entry.call) (entry ∷ []) so.can
          (ap (λ (here : SystemState). here.histories) so.leads) refl so.heard there.merged;
      first = (there.first.0, ap (λ (list : List SystemEvent). Controls entry.call ∷ list) there.first.1);
    }

-- ---- and so is what it did before all others, looks at full journals among it

abbrev pub AreFirstEvents : List Deed → List SystemEvent → Type 0
AreFirstEvents set events = (later : List SystemEvent) × (events ≡ map (λ (deed : Deed). Controls (call_of_deed deed)) set ++ later)

-- each is an event of the controller
abbrev pub AreControllers : (ℕ → ShardPlan) → List Deed → Type 0
AreControllers plan set = AllByRecursion (λ (deed : Deed). is_heard plan Controller deed ≡ true) set

record MergedFirst (setting : Setting) (plan : ℕ → ShardPlan) (count : ℕ) (deeds set later : List Deed) (system : SystemState) (rest : ℕ → List Move)
    (ends : ℕ → List Ending) : Type 0 where
  merged : Merged setting plan count deeds (set ++ later) system rest ends
  first : AreFirstEvents set merged.events

writer_is : (plan : ℕ → ShardPlan) (entry : Entry) (who : Caller) → entry.who ≡ who → is_heard plan Controller (Wrote entry) ≡ true → entry.who ≡ Controller
writer_is plan entry (Worker worker) is heard = absurd (true≢false (sym heard ∙ written_by Controller (Worker worker) plan entry false is refl))
writer_is plan entry Controller is heard = is
writer_is plan entry Reclaimer is heard = absurd (true≢false (sym heard ∙ written_by Controller Reclaimer plan entry false is refl))

merge_first : (setting : Setting) (plan : ℕ → ShardPlan) (count : ℕ) (journal : ℕ → List Entry) (moves : ℕ → List Move) (deeds : List Deed) →
    IsOrderOfMoves setting plan count journal moves deeds → (later set : List Deed) → AreControllers plan set → (earlier : List Deed) (system : SystemState)
    (rest : ℕ → List Move) (ends : ℕ → List Ending) → Stands setting count deeds earlier (set ++ later) system rest ends →
    MergedFirst setting plan count deeds set later system rest ends
unfolding go_by
merge_first setting plan count journal moves deeds order later [] all earlier system rest ends stands =
    let merged : Merged setting plan count deeds later system rest ends =
    merge setting plan count journal moves deeds order later earlier system rest ends stands in
    record { merged = merged; first = (merged.events, refl) }
merge_first setting plan count journal moves deeds order later (Wrote entry ∷ set) all earlier system rest ends stands =
    let more : List Deed = set ++ later in
    let so = controls_so setting plan count journal moves deeds earlier more entry system rest ends order stands (writer_is plan entry entry.who refl all.0) in
    let onward : MergedFirst setting plan count deeds set later (with_entry system (shard_of_call entry.call) entry) rest ends =
    merge_first setting plan count journal moves deeds order later set all.1 (earlier ++ Wrote entry ∷ [])
    (with_entry system (shard_of_call entry.call) entry) rest ends
    (behind_entry setting count deeds earlier more entry system rest ends stands so.not_theirs) in
    let there : MergedFirst setting plan count deeds set later (after_event setting system (Controls entry.call)) rest ends =
    subst (λ (here : SystemState). MergedFirst setting plan count deeds set later here rest ends) (sym so.leads) onward in
    record {
      merged = go_by setting plan count deeds (Wrote entry ∷ more) more system rest ends (Controls entry.call) (entry ∷ []) so.can
          (ap (λ (here : SystemState). here.histories) so.leads) refl so.heard there.merged;
      first = (there.first.0, ap (λ (list : List SystemEvent). Controls entry.call ∷ list) there.first.1);
    }
merge_first setting plan count journal moves deeds order later (MetFull (Worker worker) call ∷ set) all earlier system rest ends stands =
    absurd (true≢false (sym all.0))
merge_first setting plan count journal moves deeds order later (MetFull Reclaimer call ∷ set) all earlier system rest ends stands =
    absurd (true≢false (sym all.0))
merge_first setting plan count journal moves deeds order later (MetFull Controller call ∷ set) all earlier system rest ends stands =
    let more : List Deed = set ++ later in
    let shard : ℕ = shard_of_call call in
    let at = look_at setting plan count journal moves deeds earlier more Controller call system rest ends order stands in
    let may : meets (plan shard) [] Controller call ≡ true = all.0 in
    let own = heard_more plan Controller (MetFull Controller call) more may in
    let leads = turned_away setting (plan shard) system Controller call at in
    let onward : MergedFirst setting plan count deeds set later system rest ends =
    merge_first setting plan count journal moves deeds order later set all.1 (earlier ++ MetFull Controller call ∷ []) system rest ends
    (behind_look setting count deeds earlier more (MetFull Controller call) system rest ends stands (λ worker below. refl)
    (after_look count earlier system system Controller call stands.histories refl)) in
    let there : MergedFirst setting plan count deeds set later (after_event setting system (Controls call)) rest ends =
    subst (λ (here : SystemState). MergedFirst setting plan count deeds set later here rest ends) (sym leads) onward in
    record {
      merged = go_by setting plan count deeds (MetFull Controller call ∷ more) more system rest ends (Controls call) [] (
        controller_changes_keys (plan shard) [] call may,
        may_look setting (plan shard) system Controller call tt at may,
      )
          (ap (λ (here : SystemState). here.histories) leads) refl
          (record {
            nobody = λ worker. refl;
            calls = ap (map call_of_deed) (sym own);
            answers = ap (λ (one : Option Reply). one ∷ map answer_of_deed (heard plan Controller more))
                (no_answer setting (plan shard) system Controller call at) ∙ ap (map answer_of_deed) (sym own);
            rounds = refl;
          }) there.merged;
      first = (there.first.0, ap (λ (list : List SystemEvent). Controls call ∷ list) there.first.1);
    }

-- ---- from the opening on

-- one list of events, with what comes of it
pub record IsListWithEnds (setting : Setting) (plan : ℕ → ShardPlan) (count : ℕ) (journal : ℕ → List Entry) (moves : ℕ → List Move)
    (ends : ℕ → List Ending) (deeds : List Deed) : Type 0 where
  pub list : IsOneList setting count journal moves (entries_made deeds)
  pub ended : (worker : ℕ) → ended_by setting worker (opening_system setting) list.events ≡ ends worker
  pub called : controlled list.events ≡ map call_of_deed (heard plan Controller deeds)
  pub answers : answered setting (opening_system setting) list.events ≡ map answer_of_deed (heard plan Controller deeds)
  pub gone_over : reclaimed list.events ≡ map shard_of_deed (heard plan Reclaimer deeds)

abbrev IsMergedWhole : Setting → (ℕ → ShardPlan) → ℕ → (ℕ → List Move) → (ℕ → List Ending) → List Deed → Type 0
IsMergedWhole setting plan count moves ends deeds = Merged setting plan count deeds deeds (opening_system setting) moves ends

opened_stands : (setting : Setting) (plan : ℕ → ShardPlan) (count : ℕ) (journal : ℕ → List Entry) (moves : ℕ → List Move)
    (ends : ℕ → List Ending) (deeds : List Deed) → IsOrderOfMoves setting plan count journal moves deeds →
    ((worker : ℕ) → Walk setting count worker Idle (moves worker) (ends worker)) →
    Stands setting count deeds [] deeds (opening_system setting) moves ends
opened_stands setting plan count journal moves ends deeds order walks = record {
  split = refl;
  within = order.within;
  eight = length-replicate 8 Idle;
  shards = length-replicate (length setting.maps * setting.options.shards) [] ∙ sym order.count_is;
  histories = λ number below. same_everywhere (length setting.maps * setting.options.shards) number [];
  walks = λ worker. subst (λ (state : WorkerState). Walk setting count worker state (moves worker) (ends worker)) (sym (same_everywhere 8 worker Idle))
      (walks worker);
  own = order.own;
  none = order.of_others;
}

abbrev with_ends_of : (setting : Setting) (plan : ℕ → ShardPlan) (count : ℕ) (journal : ℕ → List Entry) (moves : ℕ → List Move)
    (ends : ℕ → List Ending) (deeds : List Deed) → IsOrderOfMoves setting plan count journal moves deeds →
    IsMergedWhole setting plan count moves ends deeds → IsListWithEnds setting plan count journal moves ends deeds
with_ends_of setting plan count journal moves ends deeds order merged =
    let whole = lead setting (opening_system setting) merged.events merged.last merged.happen in
    record {
      list = record {
        events = merged.events;
        can = whole.0;
        written = merged.written;
        of_each = merged.of_each;
        histories = λ number below. ap (λ (system : SystemState). reverse (history_of system number)) whole.1
            ∙ ap reverse (merged.histories number below) ∙ reverse-reverse (made_on number deeds) ∙ order.journals number below;
        idle = λ worker. ap (λ (system : SystemState). worker_state system worker) whole.1 ∙ merged.idle worker;
      };
      ended = merged.ended;
      called = merged.called;
      answers = merged.answers;
      gone_over = merged.gone_over;
    }

pub one_list_with_ends : (setting : Setting) (plan : ℕ → ShardPlan) (count : ℕ) (journal : ℕ → List Entry) (moves : ℕ → List Move)
    (ends : ℕ → List Ending) (deeds : List Deed) → IsOrderOfMoves setting plan count journal moves deeds →
    ((worker : ℕ) → Walk setting count worker Idle (moves worker) (ends worker)) →
    IsListWithEnds setting plan count journal moves ends deeds
one_list_with_ends setting plan count journal moves ends deeds order walks =
    with_ends_of setting plan count journal moves ends deeds order
    (merge setting plan count journal moves deeds order deeds [] (opening_system setting) moves ends
    (opened_stands setting plan count journal moves ends deeds order walks))

-- where the controller wrote these entries before all other deeds, their events are the first
pub record IsListBehind (setting : Setting) (plan : ℕ → ShardPlan) (count : ℕ) (journal : ℕ → List Entry) (moves : ℕ → List Move)
    (ends : ℕ → List Ending) (set : List Entry) (later : List Deed) : Type 0 where
  pub whole : IsListWithEnds setting plan count journal moves ends (map (λ (entry : Entry). Wrote entry) set ++ later)
  pub first : IsFirstOf set whole.list.events

pub one_list_behind : (setting : Setting) (plan : ℕ → ShardPlan) (count : ℕ) (journal : ℕ → List Entry) (moves : ℕ → List Move)
    (ends : ℕ → List Ending) (set : List Entry) (later : List Deed) → AllByRecursion (λ (entry : Entry). entry.who ≡ Controller) set →
    IsOrderOfMoves setting plan count journal moves (map (λ (entry : Entry). Wrote entry) set ++ later) →
    ((worker : ℕ) → Walk setting count worker Idle (moves worker) (ends worker)) →
    IsListBehind setting plan count journal moves ends set later
one_list_behind setting plan count journal moves ends set later all order walks =
    let deeds : List Deed = map (λ (entry : Entry). Wrote entry) set ++ later in
    let behind : MergedBehind setting plan count deeds set later (opening_system setting) moves ends =
    merge_behind setting plan count journal moves deeds order later set all [] (opening_system setting) moves ends
    (opened_stands setting plan count journal moves ends deeds order walks) in
    record { whole = with_ends_of setting plan count journal moves ends deeds order behind.merged; first = behind.first }

-- the same of deeds with which the order begins
pub record IsListFirst (setting : Setting) (plan : ℕ → ShardPlan) (count : ℕ) (journal : ℕ → List Entry) (moves : ℕ → List Move)
    (ends : ℕ → List Ending) (set deeds : List Deed) : Type 0 where
  pub whole : IsListWithEnds setting plan count journal moves ends deeds
  pub first : AreFirstEvents set whole.list.events

first_so : (setting : Setting) (plan : ℕ → ShardPlan) (count : ℕ) (journal : ℕ → List Entry) (moves : ℕ → List Move)
    (ends : ℕ → List Ending) (set later : List Deed) → AreControllers plan set → IsOrderOfMoves setting plan count journal moves (set ++ later) →
    ((worker : ℕ) → Walk setting count worker Idle (moves worker) (ends worker)) → IsListFirst setting plan count journal moves ends set (set ++ later)
first_so setting plan count journal moves ends set later all order walks =
    let behind : MergedFirst setting plan count (set ++ later) set later (opening_system setting) moves ends =
    merge_first setting plan count journal moves (set ++ later) order later set all [] (opening_system setting) moves ends
    (opened_stands setting plan count journal moves ends (set ++ later) order walks) in
    record { whole = with_ends_of setting plan count journal moves ends (set ++ later) order behind.merged; first = behind.first }

pub one_list_first : (setting : Setting) (plan : ℕ → ShardPlan) (count : ℕ) (journal : ℕ → List Entry) (moves : ℕ → List Move)
    (ends : ℕ → List Ending) (set later deeds : List Deed) → AreControllers plan set → deeds ≡ set ++ later → IsOrderOfMoves setting plan count journal moves deeds →
    ((worker : ℕ) → Walk setting count worker Idle (moves worker) (ends worker)) → IsListFirst setting plan count journal moves ends set deeds
one_list_first setting plan count journal moves ends set later deeds all are order walks =
    subst (λ (list : List Deed). IsListFirst setting plan count journal moves ends set list) (sym are)
    (first_so setting plan count journal moves ends set later all (subst (λ (list : List Deed). IsOrderOfMoves setting plan count journal moves list) are order) walks)

pub one_order_is_one_list : OneOrderIsOneList
one_order_is_one_list setting plan count journal moves deeds order =
    let steps : (worker : ℕ) → AreSteps setting count worker Idle (moves worker) Idle =
    λ worker. ⊎_elim (order.steps worker)
    (λ (past : setting.options.workers ≤ worker).
    subst (λ (list : List Move). AreSteps setting count worker Idle list Idle) (sym (order.of_others worker past)) refl)
    (cases_lt worker setting.options.workers) in
    (one_list_with_ends setting plan count journal moves (λ worker. ends_in setting count worker Idle (moves worker) Idle (steps worker)) deeds order
    (λ worker. record { steps = steps worker; ends_are = refl })).list
