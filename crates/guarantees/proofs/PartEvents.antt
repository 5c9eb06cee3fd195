-- The events of the parts of an order, one part behind the other: each part is of one caller, so that each event is the next deed's or none's.
use Rattle.std.proofs.Common.{⊎_elim, ◌≡◌, ◌≢◌, ℕ, ◌<◌, ◌≤◌, ◌==◌, Bool, true, false, cond, List, [], ◌∷◌, ◌++◌, length, reverse, Option, Some, refl, sym, ◌∙◌, ap, subst, arith, append_assoc, append-nil}
use Rattle.std.specs.Prelude.{map, IsTrue, slice_index_or, if◌then◌else◌}
use Rattle.std.specs.List.{AllByRecursion, flat_map}
use Rattle.std.proofs.lemmas.Bool.{cases_eq, ne_eqb}
use Rattle.std.proofs.lemmas.Bool.Decides.{nat_tests}
use Rattle.std.proofs.lemmas.List.{reverse-reverse, length-set, length-replicate}
use Rattle.semantics.specs.declared.call.Caller.{Caller}
use Rattle.semantics.specs.declared.call.Caller.TheVariants.{Worker, Controller, Reclaimer}
use Rattle.semantics.specs.declared.call.Call.{Call}
use Rattle.semantics.specs.declared.call.Call.TheVariants.{Reclaim}
use Rattle.semantics.specs.declared.call.Entry.{Entry}
use Rattle.semantics.specs.declared.call.Reply.{Reply}
use Rattle.semantics.specs.declared.plan.ShardPlan.{ShardPlan}
use Rattle.semantics.specs.ShardPlan.{plan_at}
use Rattle.semantics.specs.History.{shard_of_call, meets, IsJournalFull, IsLegalJournal, IsLegalStep}
use Rattle.semantics.specs.System.{Setting, SystemState, SystemEvent, Controls, Reclaims, WorkerState, Idle, worker_state, history_of, with_worker, with_entry, after_call, MayCall, CanHappen, after_event, opening_system}
use Rattle.semantics.specs.Events.{Ending, answers_of_event, answered, ended_by}
use Rattle.semantics.proofs.shared.SystemSteps.{state_there, state_elsewhere, same_everywhere}
use Rattle.shards.specs.declared.deeds.Deed.{Deed}
use Rattle.shards.specs.declared.deeds.Deed.TheVariants.{Wrote, MetFull}
use Rattle.shards.specs.Deeds.{shard_of_deed, entries_made, made_on, AreMet, AreDeedsWithin}
use Rattle.guarantees.specs.Steps.{AskedOfShard, Nothing, Writes, TurnedAway, Move, entries_asked, deeds_asked, deeds_in}
use Rattle.guarantees.specs.Moves.{IsMove, IsAskedSo, after_asked, is_event_of}
use Rattle.guarantees.specs.Merging.{IsWrittenNext, AreWrittenInOrder, events_of}
use Rattle.guarantees.specs.InParts.{Part, ByController, ByReclaimer, ByWorker, call_of_deed, deeds_of_part, events_of_part, deeds_in_parts, events_in_parts, IsOfCaller, IsPart, AreParts, IsOrderInParts, AreIdleBetween, IsListInParts, OrdersInPartsAreListsInParts}
use Rattle.guarantees.proofs.AnswerLemmas.{then_ended, then_answered, none_ended, none_answered}
use Rattle.actors.proofs.shared.DeedLemmas.{made_append, met_at}
use Rattle.guarantees.proofs.EndLemmas.{ends_of_asked, ends_in, Walk, end_is, no_end}
use Rattle.guarantees.proofs.LegalEntries.{entry_is_legal}
use Rattle.guarantees.proofs.AfterDeeds.{HaveHistories, after_entry, after_look, asked_shards}
use Rattle.guarantees.proofs.Heard.{answer_of_deed}
use Rattle.guarantees.proofs.MergeCalls.{IsAtPlace, answers_at, controller_changes_keys, reclaimer_reclaims, served, may_call, answer_served, IsLookAt, may_look, turned_away, no_answer}
use Rattle.guarantees.proofs.MergeEvents.{HappenFrom, then_happen, then_written, lead, asked_written, entries_are, asked_workers, AreOwn}
use Rattle.guarantees.proofs.MoveLemmas.{numbered, steps_are_moves}

-- ---- where the order has come to

pub record IsSoundOrder (setting : Setting) (plan : ℕ → ShardPlan) (count : ℕ) (deeds : List Deed) : Type 0 where
  pub few : setting.options.workers ≤ 8
  pub plans : (number : ℕ) → number < count → plan_at setting.maps setting.options number ≡ Some (plan number)
  pub legal : (number : ℕ) → number < count → IsLegalJournal (plan number) (made_on number deeds)
  pub met : AreMet plan (reverse deeds)

pub record Here (count : ℕ) (deeds earlier later : List Deed) (system : SystemState) : Type 0 where
  pub split : deeds ≡ earlier ++ later
  pub within : AreDeedsWithin count later
  pub eight : length system.workers ≡ 8
  pub shards : length system.histories ≡ count
  pub histories : HaveHistories count earlier system

abbrev after_deed : SystemState → Deed → SystemState
after_deed system (Wrote entry) = with_entry system (shard_of_call entry.call) entry
after_deed system (MetFull who call) = system

deed_workers : (system : SystemState) (deed : Deed) → (after_deed system deed).workers ≡ system.workers
deed_workers system (Wrote entry) = refl
deed_workers system (MetFull who call) = refl

deed_written : (before after : SystemState) (deed : Deed) → after.histories ≡ (after_deed before deed).histories →
    IsWrittenNext before (entries_made (deed ∷ [])) after
deed_written before after (Wrote entry) same = same
deed_written before after (MetFull who call) same = same

one_entry : (deed : Deed) (later : List Deed) → entries_made (deed ∷ later) ≡ entries_made (deed ∷ []) ++ entries_made later
one_entry (Wrote entry) later = refl
one_entry (MetFull who call) later = refl

-- ---- the events of the controller and the reclaimer

abbrev event_by : Caller → Deed → SystemEvent
event_by Controller deed = Controls (call_of_deed deed)
event_by Reclaimer deed = Reclaims (shard_of_deed deed)
event_by (Worker worker) deed = Reclaims (shard_of_deed deed)

abbrev pub answers_by : Caller → Deed → List (Option Reply)
answers_by Controller deed = answer_of_deed deed ∷ []
answers_by Reclaimer deed = []
answers_by (Worker worker) deed = []

of_nobody : (worker : ℕ) (who : Caller) (deed : Deed) → is_event_of worker (event_by who deed) ≡ false
of_nobody worker Controller deed = refl
of_nobody worker Reclaimer deed = refl
of_nobody worker (Worker one) deed = refl

nobody_ended : (setting : Setting) (worker : ℕ) (who : Caller) (system : SystemState) (own : List Deed) →
    ended_by setting worker system (map (event_by who) own) ≡ []
nobody_ended setting worker who system [] = refl
nobody_ended setting worker who system (deed ∷ own) =
    ap (λ (list : List Ending). list ++ ended_by setting worker (after_event setting system (event_by who deed)) (map (event_by who) own))
    (no_end setting worker system (event_by who deed) (of_nobody worker who deed))
    ∙ nobody_ended setting worker who (after_event setting system (event_by who deed)) own

-- ---- what comes of a part

abbrev pub ends_of_part : (setting : Setting) (plan : ℕ → ShardPlan) (count worker : ℕ) (part : Part) → IsPart setting plan count part → List Ending
ends_of_part setting plan count worker (ByController deeds) is = []
ends_of_part setting plan count worker (ByReclaimer deeds) is = []
ends_of_part setting plan count worker (ByWorker one moves) is = if one == worker then ends_in setting count one Idle moves Idle is.1 else []

abbrev pub ends_in_parts : (setting : Setting) (plan : ℕ → ShardPlan) (count worker : ℕ) (parts : List Part) → AreParts setting plan count parts → List Ending
ends_in_parts setting plan count worker [] are = []
ends_in_parts setting plan count worker (part ∷ parts) are =
    ends_of_part setting plan count worker part are.0 ++ ends_in_parts setting plan count worker parts are.1

abbrev pub answers_of_part : Part → List (Option Reply)
answers_of_part (ByController deeds) = flat_map (answers_by Controller) deeds
answers_of_part (ByReclaimer deeds) = []
answers_of_part (ByWorker worker moves) = []

no_answers : (own : List Deed) → flat_map (answers_by Reclaimer) own ≡ []
no_answers [] = refl
no_answers (deed ∷ own) = no_answers own

-- ---- from the opening on

module _ (setting : Setting) (plan : ℕ → ShardPlan) (count : ℕ) (deeds : List Deed) (order : IsSoundOrder setting plan count deeds) where
  abbrev At : List Deed → List Deed → SystemState → Type 0
  At earlier later system = Here count deeds earlier later system

  -- ---- what a deed meets at its own place

  place : (earlier later : List Deed) (entry : Entry) (system : SystemState) → At earlier (Wrote entry ∷ later) system →
      IsAtPlace setting (plan (shard_of_call entry.call)) system entry
  place earlier later entry system here =
      let shard : ℕ = shard_of_call entry.call in
      let within : shard < count = here.within.0 in
      let same : (shard == shard) ≡ true = grind (arith, nat_tests) in
      let parts : made_on shard deeds ≡ made_on shard earlier ++ entry ∷ made_on shard later =
      ap (made_on shard) here.split ∙ made_append shard earlier (Wrote entry ∷ later)
      ∙ ap (λ (test : Bool). made_on shard earlier ++ cond test (entry ∷ made_on shard later) (made_on shard later)) same in
      let legal : IsLegalJournal (plan shard) (made_on shard earlier ++ entry ∷ made_on shard later) =
      subst (IsLegalJournal (plan shard)) parts (order.legal shard within) in
      let step : IsLegalStep (plan shard) (reverse (made_on shard earlier)) entry =
      entry_is_legal (plan shard) (made_on shard earlier) (made_on shard later) entry legal in
      let known : plan_at setting.maps setting.options shard ≡ Some (plan shard) = order.plans shard within in
      let history : history_of system (plan shard).number ≡ reverse (made_on shard earlier) =
      ap (history_of system) (numbered setting shard (plan shard) known) ∙ here.histories shard within in
      record { known = known; step = subst (λ (list : List Entry). IsLegalStep (plan shard) list entry) (sym history) step }

  look : (earlier later : List Deed) (who : Caller) (call : Call) (system : SystemState) → At earlier (MetFull who call ∷ later) system →
      IsLookAt setting (plan (shard_of_call call)) system call
  look earlier later who call system here =
      let shard : ℕ = shard_of_call call in
      let known : plan_at setting.maps setting.options shard ≡ Some (plan shard) = order.plans shard here.within.0 in
      let history : history_of system (plan shard).number ≡ reverse (made_on shard earlier) =
      ap (history_of system) (numbered setting shard (plan shard) known) ∙ here.histories shard here.within.0 in
      record {
        known = known;
        full = subst (λ (list : List Entry). IsJournalFull (plan shard) list call) (sym history) (met_at plan deeds earlier later who call here.split order.met);
      }

  behind : (earlier later : List Deed) (deed : Deed) (system after : SystemState) → At earlier (deed ∷ later) system → length after.workers ≡ 8 →
      after.histories ≡ (after_deed system deed).histories → At (earlier ++ deed ∷ []) later after
  behind earlier later (Wrote entry) system after here eight same = record {
    split = here.split ∙ sym (append_assoc earlier (Wrote entry ∷ []) later);
    within = here.within.1;
    eight = eight;
    shards = ap length same ∙ asked_shards system (Writes entry) ∙ here.shards;
    histories = after_entry count earlier system after entry here.shards here.within.0 here.histories same;
  }
  behind earlier later (MetFull who call) system after here eight same = record {
    split = here.split ∙ sym (append_assoc earlier (MetFull who call ∷ []) later);
    within = here.within.1;
    eight = eight;
    shards = ap length same ∙ here.shards;
    histories = after_look count earlier system after who call here.histories same;
  }

  -- ---- a worker's moves

  asks_so : (worker : ℕ) (asked : AskedOfShard) (earlier later : List Deed) (system : SystemState) → At earlier (deeds_asked worker asked ++ later) system →
      IsAskedSo setting system asked
  asks_so worker Nothing earlier later system here = tt
  asks_so worker (Writes entry) earlier later system here =
      answers_at setting (plan (shard_of_call entry.call)) system entry (place earlier later entry system here)
  asks_so worker (TurnedAway call) earlier later system here =
      let at = look earlier later (Worker worker) call system here in record { plan = plan (shard_of_call call); known = at.known; full = at.full }

  behind_asked : (worker : ℕ) (asked : AskedOfShard) (earlier later : List Deed) (system after : SystemState) →
      At earlier (deeds_asked worker asked ++ later) system → length after.workers ≡ 8 → after.histories ≡ (after_asked system asked).histories →
      At (earlier ++ deeds_asked worker asked) later after
  behind_asked worker Nothing earlier later system after here eight same =
      subst (λ (list : List Deed). At list later after) (sym (append-nil earlier))
      (record {
        split = here.split;
        within = here.within;
        eight = eight;
        shards = ap length same ∙ here.shards;
        histories = λ number below. ap (λ list. slice_index_or list number []) same ∙ here.histories number below;
      })
  behind_asked worker (Writes entry) earlier later system after here eight same = behind earlier later (Wrote entry) system after here eight same
  behind_asked worker (TurnedAway call) earlier later system after here eight same =
      behind earlier later (MetFull (Worker worker) call) system after here eight same

  record MovesPlayed (worker : ℕ) (earlier later : List Deed) (system : SystemState) (moves : List Move) (ends : List Ending) : Type 0 where
    after : SystemState
    happen : HappenFrom setting system (events_of moves) after
    written : AreWrittenInOrder setting system (events_of moves) (entries_made (deeds_in worker moves))
    here : At (earlier ++ deeds_in worker moves) later after
    own : AreOwn worker (events_of moves)
    idle : worker_state after worker ≡ Idle
    others : (other : ℕ) → other ≢ worker → worker_state after other ≡ worker_state system other
    ended : ended_by setting worker system (events_of moves) ≡ ends

  play : (worker : ℕ) → worker < 8 → (moves : List Move) (ends : List Ending) (earlier later : List Deed) (system : SystemState) →
      At earlier (deeds_in worker moves ++ later) system → Walk setting count worker (worker_state system worker) moves ends →
      MovesPlayed worker earlier later system moves ends
  play worker few [] ends earlier later system here walk = record {
    after = system;
    happen = refl;
    written = refl;
    here = subst (λ (list : List Deed). At list later system) (sym (append-nil earlier)) here;
    own = tt;
    idle = walk.steps;
    others = λ other apart. refl;
    ended = walk.ends_are;
  }
  play worker few (move ∷ moves) ends earlier later system here walk =
      let before : WorkerState = worker_state system worker in
      let now : WorkerState = walk.steps.0 in
      let asked : AskedOfShard = move.asked in
      let mine : List Deed = deeds_in worker moves in
      let stands : At earlier (deeds_asked worker asked ++ (mine ++ later)) system =
      subst (λ (list : List Deed). At earlier list system) (append_assoc (deeds_asked worker asked) mine later) here in
      let so : IsAskedSo setting system asked = asks_so worker asked earlier (mine ++ later) system stands in
      let means : IsMove setting worker before move now = steps_are_moves setting count worker before move now walk.steps.1 in
      let next : SystemState = with_worker (after_asked system asked) worker now in
      let leads : after_event setting system move.event ≡ next = means.leads system refl so in
      let workers : (after_asked system asked).workers ≡ system.workers = asked_workers system asked in
      let eight : length next.workers ≡ 8 = length-set (after_asked system asked).workers worker now ∙ ap length workers ∙ here.eight in
      let room : worker < length (after_asked system asked).workers = subst (λ (n : ℕ). worker < n) (sym (ap length workers ∙ here.eight)) few in
      let own_ends : List Ending = ends_in setting count worker now moves Idle walk.steps.2 in
      let rest : MovesPlayed worker (earlier ++ deeds_asked worker asked) later next moves own_ends =
      play worker few moves own_ends (earlier ++ deeds_asked worker asked) later next
      (behind_asked worker asked earlier (mine ++ later) system next stands eight refl)
      (subst (λ (one : WorkerState). Walk setting count worker one moves own_ends) (sym (state_there (after_asked system asked) worker now room))
      (record { steps = walk.steps.2; ends_are = refl })) in
      record {
        after = rest.after;
        happen = (means.can system refl so, subst (λ (one : SystemState). HappenFrom setting one (events_of moves) rest.after) (sym leads) rest.happen);
        written = (
          entries_asked asked,
          entries_made mine,
          entries_are worker asked mine (entries_made mine) refl,
          asked_written system (after_event setting system move.event) asked (ap (λ (one : SystemState). one.histories) leads),
          subst (λ (one : SystemState). AreWrittenInOrder setting one (events_of moves) (entries_made mine)) (sym leads) rest.written,
        );
        here = subst (λ (list : List Deed). At list later rest.after) (append_assoc earlier (deeds_asked worker asked) mine) rest.here;
        own = (means.own, rest.own);
        idle = rest.idle;
        others = λ other apart. rest.others other apart ∙ state_elsewhere (after_asked system asked) worker other now apart
            ∙ ap (λ list. slice_index_or list other Idle) workers;
        ended = ap (λ (first : List Ending). first ++ ended_by setting worker (after_event setting system move.event) (events_of moves))
            (end_is setting count worker before move now walk.steps.1 system refl so)
            ∙ ap (λ (one : SystemState). ends_of_asked setting before move.event asked ++ ended_by setting worker one (events_of moves)) leads
            ∙ ap (λ (list : List Ending). ends_of_asked setting before move.event asked ++ list) rest.ended ∙ walk.ends_are;
      }

  -- ---- deeds of the controller or the reclaimer

  record DeedHappens (system : SystemState) (event : SystemEvent) (deed : Deed) (answers : List (Option Reply)) : Type 0 where
    can : CanHappen setting system event
    leads : after_event setting system event ≡ after_deed system deed
    answered_so : answers_of_event setting system event ≡ answers

  abbrev EachHappens : Caller → Type 0
  EachHappens who =
      (earlier later : List Deed) (deed : Deed) (system : SystemState) → At earlier (deed ∷ later) system → IsOfCaller plan who deed →
      DeedHappens system (event_by who deed) deed (answers_by who deed)

  controls : EachHappens Controller
  controls earlier later (Wrote entry) system here is =
      let at = place earlier later entry system here in
      let one : ShardPlan = plan (shard_of_call entry.call) in
      record {
        can = (
          controller_changes_keys one (history_of system one.number) entry.call
              (subst (λ (who : Caller). IsTrue (meets one (history_of system one.number) who entry.call)) is at.step.step.met),
          may_call setting one system entry Controller is at,
        );
        leads = served setting one system entry Controller is at;
        answered_so = ap (λ (reply : Option Reply). reply ∷ []) (answer_served setting one system entry Controller is at);
      }
  controls earlier later (MetFull who call) system here is =
      let at = look earlier later who call system here in
      let one : ShardPlan = plan (shard_of_call call) in
      record {
        can = (controller_changes_keys one [] call is.1, may_look setting one system Controller call tt at is.1);
        leads = turned_away setting one system Controller call at;
        answered_so = ap (λ (reply : Option Reply). reply ∷ []) (no_answer setting one system Controller call at);
      }

  reclaims : EachHappens Reclaimer
  reclaims earlier later (Wrote entry) system here is =
      let at = place earlier later entry system here in
      let shard : ℕ = shard_of_call entry.call in
      let one : ShardPlan = plan shard in
      let call_is : entry.call ≡ Reclaim shard =
      reclaimer_reclaims one (history_of system one.number) entry.call
      (subst (λ (who : Caller). IsTrue (meets one (history_of system one.number) who entry.call)) is at.step.step.met) in
      record {
        can = subst (λ (call : Call). MayCall (plan_at setting.maps setting.options shard) system Reclaimer call) call_is
            (may_call setting one system entry Reclaimer is at);
        leads = ap (λ (call : Call). after_call (plan_at setting.maps setting.options shard) system Reclaimer call) (sym call_is)
            ∙ served setting one system entry Reclaimer is at;
        answered_so = refl;
      }
  reclaims earlier later (MetFull who call) system here is =
      let at = look earlier later who call system here in
      let shard : ℕ = shard_of_call call in
      let one : ShardPlan = plan shard in
      let call_is : call ≡ Reclaim shard = reclaimer_reclaims one [] call is.1 in
      record {
        can = subst (λ (which : Call). MayCall (plan_at setting.maps setting.options shard) system Reclaimer which) call_is
            (may_look setting one system Reclaimer call tt at is.1);
        leads = ap (λ (which : Call). after_call (plan_at setting.maps setting.options shard) system Reclaimer which) (sym call_is)
            ∙ turned_away setting one system Reclaimer call at;
        answered_so = refl;
      }

  record DeedsPlayed (who : Caller) (earlier later : List Deed) (system : SystemState) (own : List Deed) : Type 0 where
    after : SystemState
    happen : HappenFrom setting system (map (event_by who) own) after
    written : AreWrittenInOrder setting system (map (event_by who) own) (entries_made own)
    here : At (earlier ++ own) later after
    workers : after.workers ≡ system.workers
    answers : answered setting system (map (event_by who) own) ≡ flat_map (answers_by who) own

  play_deeds : (who : Caller) → EachHappens who → (own earlier later : List Deed) (system : SystemState) → AllByRecursion (IsOfCaller plan who) own →
      At earlier (own ++ later) system → DeedsPlayed who earlier later system own
  play_deeds who each [] earlier later system all here = record {
    after = system;
    happen = refl;
    written = refl;
    here = subst (λ (list : List Deed). At list later system) (sym (append-nil earlier)) here;
    workers = refl;
    answers = refl;
  }
  play_deeds who each (deed ∷ own) earlier later system all here =
      let event : SystemEvent = event_by who deed in
      let next : SystemState = after_deed system deed in
      let one = each earlier (own ++ later) deed system here all.0 in
      let rest : DeedsPlayed who (earlier ++ deed ∷ []) later next own =
      play_deeds who each own (earlier ++ deed ∷ []) later next all.1
      (behind earlier (own ++ later) deed system next here (ap length (deed_workers system deed) ∙ here.eight) refl) in
      record {
        after = rest.after;
        happen = (one.can, subst (λ (from : SystemState). HappenFrom setting from (map (event_by who) own) rest.after) (sym one.leads) rest.happen);
        written = (
          entries_made (deed ∷ []),
          entries_made own,
          one_entry deed own,
          deed_written system (after_event setting system event) deed (ap (λ (from : SystemState). from.histories) one.leads),
          subst (λ (from : SystemState). AreWrittenInOrder setting from (map (event_by who) own) (entries_made own)) (sym one.leads) rest.written,
        );
        here = subst (λ (list : List Deed). At list later rest.after) (append_assoc earlier (deed ∷ []) own) rest.here;
        workers = rest.workers ∙ deed_workers system deed;
        answers = ap (λ (first : List (Option Reply)). first ++ answered setting (after_event setting system event) (map (event_by who) own)) one.answered_so
            ∙ ap (λ (from : SystemState). answers_by who deed ++ answered setting from (map (event_by who) own)) one.leads
            ∙ ap (λ (list : List (Option Reply)). answers_by who deed ++ list) rest.answers;
      }

  -- ---- a part

  record PartPlayed (earlier later : List Deed) (system : SystemState) (part : Part) (is : IsPart setting plan count part) : Type 0 where
    after : SystemState
    happen : HappenFrom setting system (events_of_part part) after
    written : AreWrittenInOrder setting system (events_of_part part) (entries_made (deeds_of_part part))
    here : At (earlier ++ deeds_of_part part) later after
    idle : (worker : ℕ) → worker_state after worker ≡ Idle
    ended : (worker : ℕ) → ended_by setting worker system (events_of_part part) ≡ ends_of_part setting plan count worker part is
    answers : answered setting system (events_of_part part) ≡ answers_of_part part

  by_deeds : (who : Caller) (own earlier later : List Deed) (system after : SystemState) → ((worker : ℕ) → worker_state system worker ≡ Idle) →
      after.workers ≡ system.workers → (worker : ℕ) → worker_state after worker ≡ Idle
  by_deeds who own earlier later system after idle workers worker = ap (λ list. slice_index_or list worker Idle) workers ∙ idle worker

  part_played : (part : Part) (is : IsPart setting plan count part) (earlier later : List Deed) (system : SystemState) →
      At earlier (deeds_of_part part ++ later) system → ((worker : ℕ) → worker_state system worker ≡ Idle) → PartPlayed earlier later system part is
  part_played (ByController own) is earlier later system here idle =
      let done = play_deeds Controller controls own earlier later system is here in
      record {
        after = done.after;
        happen = done.happen;
        written = done.written;
        here = done.here;
        idle = by_deeds Controller own earlier later system done.after idle done.workers;
        ended = λ worker. nobody_ended setting worker Controller system own;
        answers = done.answers;
      }
  part_played (ByReclaimer own) is earlier later system here idle =
      let done = play_deeds Reclaimer reclaims own earlier later system is here in
      record {
        after = done.after;
        happen = done.happen;
        written = done.written;
        here = done.here;
        idle = by_deeds Reclaimer own earlier later system done.after idle done.workers;
        ended = λ worker. nobody_ended setting worker Reclaimer system own;
        answers = done.answers ∙ no_answers own;
      }
  part_played (ByWorker one moves) is earlier later system here idle =
      let ends : List Ending = ends_in setting count one Idle moves Idle is.1 in
      let few : one < 8 = (let below = is.0 in let small = order.few in omega (arith, below, small)) in
      let done : MovesPlayed one earlier later system moves ends =
      play one few moves ends earlier later system here
      (subst (λ (state : WorkerState). Walk setting count one state moves ends) (sym (idle one)) (record { steps = is.1; ends_are = refl })) in
      let same : (one == one) ≡ true = grind (arith, nat_tests) in
      record {
        after = done.after;
        happen = done.happen;
        written = done.written;
        here = done.here;
        idle = λ worker. ⊎_elim
            (λ (at : worker ≡ one). ap (worker_state done.after) at ∙ done.idle)
            (λ (apart : worker ≢ one). done.others worker apart ∙ idle worker)
            (cases_eq worker one);
        ended = λ worker. ⊎_elim
            (λ (at : worker ≡ one).
            subst (λ (w : ℕ). ended_by setting w system (events_of moves) ≡ (if one == w then ends else [])) (sym at)
            (done.ended ∙ ap (λ (test : Bool). if test then ends else []) (sym same)))
            (λ (apart : worker ≢ one).
            none_ended setting one worker system (events_of moves) apart done.own
            ∙ ap (λ (test : Bool). if test then ends else []) (sym (ne_eqb one worker (λ also. apart (sym also)))))
            (cases_eq worker one);
        answers = none_answered setting one system (events_of moves) done.own;
      }

  -- ---- part after part

  pub record PartsPlayed (earlier : List Deed) (before : List SystemEvent) (system : SystemState) (parts : List Part) (are : AreParts setting plan count parts) :
      Type 0 where
    pub after : SystemState
    pub happen : HappenFrom setting system (events_in_parts parts) after
    pub written : AreWrittenInOrder setting system (events_in_parts parts) (entries_made (deeds_in_parts parts))
    pub here : At (earlier ++ deeds_in_parts parts) [] after
    pub idle : (worker : ℕ) → worker_state after worker ≡ Idle
    pub between : AreIdleBetween setting before parts
    pub ended : (worker : ℕ) → ended_by setting worker system (events_in_parts parts) ≡ ends_in_parts setting plan count worker parts are
    pub answers : answered setting system (events_in_parts parts) ≡ flat_map answers_of_part parts

  play_parts : (parts : List Part) (are : AreParts setting plan count parts) (earlier : List Deed) (before : List SystemEvent) (system : SystemState) →
      HappenFrom setting (opening_system setting) before system → At earlier (deeds_in_parts parts) system →
      ((worker : ℕ) → worker_state system worker ≡ Idle) → PartsPlayed earlier before system parts are
  play_parts [] are earlier before system came here idle = record {
    after = system;
    happen = refl;
    written = refl;
    here = subst (λ (list : List Deed). At list [] system) (sym (append-nil earlier)) here;
    idle = idle;
    between = tt;
    ended = λ worker. refl;
    answers = refl;
  }
  play_parts (part ∷ parts) are earlier before system came here idle =
      let own : List SystemEvent = events_of_part part in
      let one : PartPlayed earlier (deeds_in_parts parts) system part are.0 =
      part_played part are.0 earlier (deeds_in_parts parts) system here idle in
      let came_on : HappenFrom setting (opening_system setting) (before ++ own) one.after =
      then_happen setting (opening_system setting) system one.after before own came one.happen in
      let rest : PartsPlayed (earlier ++ deeds_of_part part) (before ++ own) one.after parts are.1 =
      play_parts parts are.1 (earlier ++ deeds_of_part part) (before ++ own) one.after came_on one.here one.idle in
      record {
        after = rest.after;
        happen = then_happen setting system one.after rest.after own (events_in_parts parts) one.happen rest.happen;
        written = subst (λ (list : List Entry). AreWrittenInOrder setting system (own ++ events_in_parts parts) list)
            (sym (entries_both (deeds_of_part part) (deeds_in_parts parts)))
            (then_written setting system one.after own (events_in_parts parts) (entries_made (deeds_of_part part)) (entries_made (deeds_in_parts parts)) one.happen
            one.written rest.written);
        here = subst (λ (list : List Deed). At list [] rest.after) (append_assoc earlier (deeds_of_part part) (deeds_in_parts parts)) rest.here;
        idle = rest.idle;
        between = (
          λ worker. ap (λ (there : SystemState). worker_state there worker) (lead setting (opening_system setting) (before ++ own) one.after came_on).1 ∙ one.idle worker,
          rest.between,
        );
        ended = λ worker. then_ended setting worker system one.after own (events_in_parts parts) one.happen
            ∙ ap (λ (list : List Ending). list ++ ended_by setting worker one.after (events_in_parts parts)) (one.ended worker)
            ∙ ap (λ (list : List Ending). ends_of_part setting plan count worker part are.0 ++ list) (rest.ended worker);
        answers = then_answered setting system one.after own (events_in_parts parts) one.happen
            ∙ ap (λ (list : List (Option Reply)). list ++ answered setting one.after (events_in_parts parts)) one.answers
            ∙ ap (λ (list : List (Option Reply)). answers_of_part part ++ list) rest.answers;
      }
    where
      entries_both : (first second : List Deed) → entries_made (first ++ second) ≡ entries_made first ++ entries_made second
      entries_both [] second = refl
      entries_both (Wrote entry ∷ first) second = ap (λ (list : List Entry). entry ∷ list) (entries_both first second)
      entries_both (MetFull who call ∷ first) second = entries_both first second

-- ---- the law

module _ (setting : Setting) (plan : ℕ → ShardPlan) (count : ℕ) (journal : ℕ → List Entry) (parts : List Part)
    (order : IsOrderInParts setting plan count journal parts) where
  abbrev pub all_deeds : List Deed
  all_deeds = deeds_in_parts parts

  pub sound : IsSoundOrder setting plan count all_deeds
  sound = record {
    few = order.options.at_most_eight;
    plans = order.plans;
    legal = λ number below. subst (IsLegalJournal (plan number)) (sym (order.journals number below)) (order.legal number below);
    met = order.met;
  }

  opened : Here count all_deeds [] all_deeds (opening_system setting)
  opened = record {
    split = refl;
    within = order.within;
    eight = length-replicate 8 Idle;
    shards = length-replicate _ [] ∙ sym order.count_is;
    histories = λ number below. same_everywhere _ number [];
  }

  pub played : PartsPlayed setting plan count all_deeds sound [] [] (opening_system setting) parts order.are_parts
  played = play_parts setting plan count all_deeds sound parts order.are_parts [] [] (opening_system setting) refl opened (λ worker. same_everywhere 8 worker Idle)

  pub list_in_parts : IsListInParts setting count journal parts
  list_in_parts =
      let all = lead setting (opening_system setting) (events_in_parts parts) played.after played.happen in
      record {
        can = all.0;
        idle = played.between;
        histories = λ number below. ap (λ (system : SystemState). reverse (history_of system number)) all.1
            ∙ ap reverse (played.here.histories number below) ∙ reverse-reverse (made_on number all_deeds) ∙ order.journals number below;
      }

pub orders_in_parts : OrdersInPartsAreListsInParts
orders_in_parts setting plan count journal parts order = list_in_parts setting plan count journal parts order
