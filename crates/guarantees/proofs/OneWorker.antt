-- One worker's own order is an order of all deeds.
use Rattle.std.proofs.Common.{◌≡◌, ◌≢◌, ⊎_elim, ℕ, ◌*◌, ◌<◌, ◌≤◌, ◌==◌, Bool, true, false, cond, List, [], ◌∷◌, ◌++◌, length, reverse, Some, refl, sym, ◌∙◌, ap, subst, arith}
use Rattle.std.specs.Prelude.{filter, map, IsFalse}
use Rattle.std.specs.List.{AllByRecursion}
use Rattle.std.proofs.lemmas.Bool.{cases_eq, ne_eqb, eqb-true}
use Rattle.std.proofs.lemmas.Bool.Decides.{nat_tests}
use Rattle.std.proofs.lemmas.List.Elements.{filter-append}
use Rattle.semantics.specs.declared.call.Caller.{Caller}
use Rattle.semantics.specs.declared.call.Caller.TheVariants.{Worker, Controller, Reclaimer}
use Rattle.semantics.specs.declared.call.Entry.{Entry}
use Rattle.semantics.specs.declared.plan.ShardPlan.{ShardPlan}
use Rattle.semantics.specs.Reclamation.{is_worker}
use Rattle.semantics.specs.History.{IsLegalJournal}
use Rattle.semantics.specs.ShardPlan.{plan_at, AreOptions}
use Rattle.semantics.specs.System.{Setting, WorkerState, Idle, run_over}
use Rattle.shards.specs.declared.deeds.Deed.{Deed}
use Rattle.shards.specs.declared.deeds.Deed.TheVariants.{Wrote, MetFull}
use Rattle.shards.specs.Deeds.{shard_of_deed, caller_of_deed, is_of_shard, entries_made, AreMet, AreDeedsWithin}
use Rattle.guarantees.specs.Steps.{InRun, running, AreStepsOfRun, leavings}
use Rattle.guarantees.specs.Steps.{AskedOfShard, Nothing, Writes, TurnedAway, Move, IsStep, RunBegins, RunGoesOn, RunEnds, CallIsServed, ShardIsEntered, CallIsRefused, EnterIsRefused, ShardIsLeft, AreSteps, entries_in, deeds_asked, deeds_in}
use Rattle.guarantees.specs.Merging.{is_refusal, NoneRefused, moves_of, IsOrderOfMoves, IsOneList, IsSetBefore, set_and_done, OneWorkerIsOneList}
use Rattle.actors.proofs.shared.DeedLemmas.{is_deed_by}
use Rattle.actors.proofs.shared.EveryEntry.{all_both, all_reverse}
use Rattle.guarantees.proofs.Merge.{one_order_is_one_list}
use Rattle.guarantees.proofs.MergeEvents.{entries_are}

-- ---- an idle worker that takes a step is one of the options

begins_few : (setting : Setting) (count worker : ℕ) (before : WorkerState) (move : Move) (after : WorkerState) →
    IsStep setting count worker before move after → before ≡ Idle → worker < setting.options.workers
begins_few setting count worker before move after (RunBegins frame now told few input early low) idle = few
begins_few setting count worker before move after (RunGoesOn state next entered is) idle = absurd cc
begins_few setting count worker before move after (RunEnds state last verdict entered is) idle = absurd cc
begins_few setting count worker before move after (CallIsServed state entered call next reply is within inside formed) idle = absurd cc
begins_few setting count worker before move after (ShardIsEntered state entered call next is within outside) idle = absurd cc
begins_few setting count worker before move after (CallIsRefused state entered call next is within inside) idle = absurd cc
begins_few setting count worker before move after (EnterIsRefused state entered call next is within outside) idle = absurd cc
begins_few setting count worker before move after (ShardIsLeft shard entered within inside) idle = absurd cc

none_past : (setting : Setting) (count worker : ℕ) (moves : List Move) (after : WorkerState) → setting.options.workers ≤ worker →
    AreSteps setting count worker Idle moves after → moves ≡ []
none_past setting count worker [] after past steps = refl
none_past setting count worker (move ∷ moves) after past steps =
    let few : worker < setting.options.workers = begins_few setting count worker Idle move steps.0 steps.1 refl in
    absurd (omega (arith, few, past))

-- ---- what a step does is its worker's, on one of the shards

abbrev pub IsOwnDeed : ℕ → ℕ → Deed → Type 0
IsOwnDeed count worker deed = (shard_of_deed deed < count) × (is_deed_by worker deed ≡ true)

pub its_own : (worker : ℕ) → (worker == worker) ≡ true
its_own worker = grind (arith, nat_tests)

own_deeds : (setting : Setting) (count worker : ℕ) (before : WorkerState) (move : Move) (after : WorkerState) →
    IsStep setting count worker before move after → AllByRecursion (IsOwnDeed count worker) (deeds_asked worker move.asked)
own_deeds setting count worker before move after (RunBegins frame now told few input early low) = tt
own_deeds setting count worker before move after (RunGoesOn state next entered is) = tt
own_deeds setting count worker before move after (RunEnds state last verdict entered is) = tt
own_deeds setting count worker before move after (CallIsServed state entered call next reply is within inside formed) =
    ((within, its_own worker), tt)
own_deeds setting count worker before move after (ShardIsEntered state entered call next is within outside) = ((within, its_own worker), tt)
own_deeds setting count worker before move after (CallIsRefused state entered call next is within inside) = ((within, its_own worker), tt)
own_deeds setting count worker before move after (EnterIsRefused state entered call next is within outside) = ((within, its_own worker), tt)
own_deeds setting count worker before move after (ShardIsLeft shard entered within inside) = ((within, its_own worker), tt)

pub all_own : (setting : Setting) (count worker : ℕ) (moves : List Move) (before after : WorkerState) → AreSteps setting count worker before moves after →
    AllByRecursion (IsOwnDeed count worker) (deeds_in worker moves)
all_own setting count worker [] before after steps = tt
all_own setting count worker (move ∷ moves) before after steps =
    all_both (IsOwnDeed count worker) (deeds_asked worker move.asked) (deeds_in worker moves)
    (own_deeds setting count worker before move steps.0 steps.1) (all_own setting count worker moves steps.0 after steps.2)

within_of : (count worker : ℕ) (deeds : List Deed) → AllByRecursion (IsOwnDeed count worker) deeds → AreDeedsWithin count deeds
within_of count worker [] own = tt
within_of count worker (deed ∷ deeds) own = (own.0.0, within_of count worker deeds own.1)

all_stay : (count worker : ℕ) (deeds : List Deed) → AllByRecursion (IsOwnDeed count worker) deeds → filter (is_deed_by worker) deeds ≡ deeds
all_stay count worker [] own = refl
all_stay count worker (deed ∷ deeds) own =
    ap (λ (test : Bool). cond test (deed ∷ filter (is_deed_by worker) deeds) (filter (is_deed_by worker) deeds)) own.0.1
    ∙ ap (λ (list : List Deed). deed ∷ list) (all_stay count worker deeds own.1)

-- ---- nothing of another's

not_another : (worker other : ℕ) → other ≢ worker → (who : Caller) → is_worker worker who ≡ true → is_worker other who ≡ false
not_another worker other apart (Worker number) is = ne_eqb number other (λ same. apart (sym same ∙ eqb-true number worker is))
not_another worker other apart Controller is = refl
not_another worker other apart Reclaimer is = refl

none_of : (count worker other : ℕ) (deeds : List Deed) → AllByRecursion (IsOwnDeed count worker) deeds → other ≢ worker →
    filter (is_deed_by other) deeds ≡ []
none_of count worker other [] own apart = refl
none_of count worker other (deed ∷ deeds) own apart =
    ap (λ (test : Bool). cond test (deed ∷ filter (is_deed_by other) deeds) (filter (is_deed_by other) deeds))
    (not_another worker other apart (caller_of_deed deed) own.0.1)
    ∙ none_of count worker other deeds own.1 apart

-- ---- entries

pub all_entries : (worker : ℕ) (moves : List Move) → entries_made (deeds_in worker moves) ≡ entries_in moves
all_entries worker [] = refl
all_entries worker (move ∷ moves) = entries_are worker move.asked (deeds_in worker moves) (entries_in moves) (all_entries worker moves)

-- ---- no look at a full journal

abbrev pub IsWritten : Deed → Type 0
IsWritten (Wrote entry) = Unit {0}
IsWritten (MetFull who call) = ⊥

asked_writes : (worker : ℕ) (asked : AskedOfShard) → IsFalse (is_refusal asked) → AllByRecursion IsWritten (deeds_asked worker asked)
asked_writes worker Nothing none = tt
asked_writes worker (Writes entry) none = (tt, tt)
asked_writes worker (TurnedAway call) none = absurd cc

pub all_written : (worker : ℕ) (moves : List Move) → NoneRefused moves → AllByRecursion IsWritten (deeds_in worker moves)
all_written worker [] none = tt
all_written worker (move ∷ moves) none =
    all_both IsWritten (deeds_asked worker move.asked) (deeds_in worker moves) (asked_writes worker move.asked none.0) (all_written worker moves none.1)

pub none_looks : (plan : ℕ → ShardPlan) (deeds : List Deed) → AllByRecursion IsWritten deeds → AreMet plan deeds
none_looks plan [] all = tt
none_looks plan (Wrote entry ∷ deeds) all = (tt, none_looks plan deeds all.1)
none_looks plan (MetFull who call ∷ deeds) all = absurd all.0

-- ---- what the controller set before

abbrev pub deeds_set : List Entry → List Deed
deeds_set set = map (λ (entry : Entry). Wrote entry) set

set_within : (count : ℕ) (set : List Entry) → AllByRecursion (IsSetBefore count) set → AreDeedsWithin count (deeds_set set)
set_within count [] all = tt
set_within count (entry ∷ set) all = (all.0.within, set_within count set all.1)

pub set_written : (set : List Entry) → AllByRecursion IsWritten (deeds_set set)
set_written [] = tt
set_written (entry ∷ set) = (tt, set_written set)

pub set_entries : (set : List Entry) (later : List Deed) → entries_made (deeds_set set ++ later) ≡ set ++ entries_made later
set_entries [] later = refl
set_entries (entry ∷ set) later = ap (λ (list : List Entry). entry ∷ list) (set_entries set later)

of_no_worker : (count worker : ℕ) (set : List Entry) (later : List Deed) → AllByRecursion (IsSetBefore count) set →
    filter (is_deed_by worker) (deeds_set set ++ later) ≡ filter (is_deed_by worker) later
of_no_worker count worker [] later all = refl
of_no_worker count worker (entry ∷ set) later all =
    ap (λ (test : Bool). cond test (Wrote entry ∷ filter (is_deed_by worker) (deeds_set set ++ later)) (filter (is_deed_by worker) (deeds_set set ++ later)))
    (ap (is_worker worker) all.0.who)
    ∙ of_no_worker count worker set later all.1

-- ---- the order

-- what the controller set, and then the worker's deeds, looks at full journals among them
pub order_of_one : (setting : Setting) (plan : ℕ → ShardPlan) (count worker : ℕ) (set : List Entry) (moves : List Move) →
    AreOptions setting.maps setting.options → count ≡ length setting.maps * setting.options.shards →
    ((number : ℕ) → number < count → plan_at setting.maps setting.options number ≡ Some (plan number)) →
    AllByRecursion (IsSetBefore count) set → AreSteps setting count worker Idle moves Idle →
    AreMet plan (reverse (deeds_set set ++ deeds_in worker moves)) →
    ((number : ℕ) → number < count → IsLegalJournal (plan number) (set_and_done set moves number)) →
    IsOrderOfMoves setting plan count (set_and_done set moves) (moves_of worker moves) (deeds_set set ++ deeds_in worker moves)
order_of_one setting plan count worker set moves options count_is plans before steps met legal =
    let own = all_own setting count worker moves Idle Idle steps in
    let deeds : List Deed = deeds_set set ++ deeds_in worker moves in
    record {
      options = options;
      count_is = count_is;
      plans = plans;
      within = all_both (λ (deed : Deed). shard_of_deed deed < count) (deeds_set set) (deeds_in worker moves) (set_within count set before)
          (within_of count worker (deeds_in worker moves) own);
      journals = λ number below.
          ap (filter (is_of_shard number)) (set_entries set (deeds_in worker moves) ∙ ap (λ (list : List Entry). set ++ list) (all_entries worker moves))
          ∙ filter-append (is_of_shard number) set (entries_in moves);
      legal = legal;
      met = met;
      own = λ other below. ⊎_elim
          (λ same. subst (λ (one : ℕ). deeds_in one (moves_of worker moves one) ≡ filter (is_deed_by one) deeds) (sym same)
          (ap (λ (test : Bool). deeds_in worker (cond test moves [])) (its_own worker)
          ∙ sym (of_no_worker count worker set (deeds_in worker moves) before ∙ all_stay count worker (deeds_in worker moves) own)))
          (λ apart. ap (λ (test : Bool). deeds_in other (cond test moves [])) (ne_eqb other worker apart)
          ∙ sym (of_no_worker count other set (deeds_in worker moves) before ∙ none_of count worker other (deeds_in worker moves) own apart))
          (cases_eq other worker);
      steps = λ other below. ⊎_elim
          (λ same. subst (λ (one : ℕ). AreSteps setting count one Idle (moves_of worker moves one) Idle) (sym same)
          (subst (λ (test : Bool). AreSteps setting count worker Idle (cond test moves []) Idle) (sym (its_own worker)) steps))
          (λ apart. subst (λ (test : Bool). AreSteps setting count other Idle (cond test moves []) Idle) (sym (ne_eqb other worker apart)) refl)
          (cases_eq other worker);
      of_others = λ other past. ⊎_elim
          (λ same. subst (λ (one : ℕ). moves_of worker moves one ≡ []) (sym same)
          (ap (λ (test : Bool). cond test moves []) (its_own worker)
          ∙ none_past setting count worker moves Idle (subst (λ (one : ℕ). setting.options.workers ≤ one) same past) steps))
          (λ apart. ap (λ (test : Bool). cond test moves []) (ne_eqb other worker apart))
          (cases_eq other worker);
    }

-- where no move met a full journal, the deeds are entries
pub none_met : (plan : ℕ → ShardPlan) (worker : ℕ) (set : List Entry) (moves : List Move) → NoneRefused moves →
    AreMet plan (reverse (deeds_set set ++ deeds_in worker moves))
none_met plan worker set moves none =
    let deeds : List Deed = deeds_set set ++ deeds_in worker moves in
    none_looks plan (reverse deeds)
    (all_reverse IsWritten deeds (all_both IsWritten (deeds_set set) (deeds_in worker moves) (set_written set) (all_written worker moves none)))

pub one_worker_is_one_list : OneWorkerIsOneList
one_worker_is_one_list setting plan count worker set moves options count_is plans before steps none legal =
    subst (λ (entries : List Entry). IsOneList setting count (set_and_done set moves) (moves_of worker moves) entries)
    (set_entries set (deeds_in worker moves) ∙ ap (λ (list : List Entry). set ++ list) (all_entries worker moves))
    (one_order_is_one_list setting plan count (set_and_done set moves) (moves_of worker moves) (deeds_set set ++ deeds_in worker moves)
    (order_of_one setting plan count worker set moves options count_is plans before steps (none_met plan worker set moves none) legal))

-- ---- one run

pub over_is_not : (entered : List ℕ) (here : InRun) → run_over entered ≡ running here → ⊥
over_is_not [] here is = absurd cc
over_is_not (shard ∷ entered) here is = absurd cc

no_refusal : (setting : Setting) (count worker : ℕ) (before : WorkerState) (move : Move) (after : WorkerState) →
    IsStep setting count worker before move after → (here : InRun) → after ≡ running here → IsFalse (is_refusal move.asked)
no_refusal setting count worker before move after (RunBegins frame now told few input early low) here is = refl
no_refusal setting count worker before move after (RunGoesOn state next entered step) here is = refl
no_refusal setting count worker before move after (RunEnds state last verdict entered step) here is = refl
no_refusal setting count worker before move after (CallIsServed state entered call next reply step within inside formed) here is = refl
no_refusal setting count worker before move after (ShardIsEntered state entered call next step within outside) here is = refl
no_refusal setting count worker before move after (CallIsRefused state entered call next step within inside) here is =
    absurd (over_is_not entered here is)
no_refusal setting count worker before move after (EnterIsRefused state entered call next step within outside) here is =
    absurd (over_is_not entered here is)
no_refusal setting count worker before move after (ShardIsLeft shard entered within inside) here is = refl

pub run_refuses_none : (setting : Setting) (count worker : ℕ) (moves : List Move) (before after : InRun) →
    AreStepsOfRun setting count worker before moves after → NoneRefused moves
run_refuses_none setting count worker [] before after steps = tt
run_refuses_none setting count worker (move ∷ moves) before after steps = (
  no_refusal setting count worker (running before) move (running steps.0) steps.1 steps.0 refl,
  run_refuses_none setting count worker moves steps.0 after steps.2,
)

pub leavings_refuse_none : (worker : ℕ) (left : List ℕ) → NoneRefused (leavings worker left)
leavings_refuse_none worker [] = tt
leavings_refuse_none worker (shard ∷ left) = (refl, leavings_refuse_none worker left)

pub as_steps : (setting : Setting) (count worker : ℕ) (moves later : List Move) (before after : InRun) (last : WorkerState) →
    AreStepsOfRun setting count worker before moves after → AreSteps setting count worker (running after) later last →
    AreSteps setting count worker (running before) (moves ++ later) last
as_steps setting count worker [] later before after last steps more =
    subst (λ (here : InRun). AreSteps setting count worker (running here) later last) (sym steps) more
as_steps setting count worker (move ∷ moves) later before after last steps more =
    (running steps.0, steps.1, as_steps setting count worker moves later steps.0 after last steps.2 more)
