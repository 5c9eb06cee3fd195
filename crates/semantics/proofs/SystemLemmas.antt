-- Events around a safe image keep every history legal, and a run inside the shards that it has entered.
use Rattle.std.proofs.Common.{◌≡◌, ◌≢◌, ℕ, ◌*◌, ◌/◌, ◌%◌, ◌<◌, ◌≤◌, ◌==◌, ◌&&◌, ◌||◌, Bool, true, false, not, nat_lt, List, [], ◌∷◌, ◌++◌, length, Option, Some, None, refl, sym, ap, subst, ◌∙◌, ⊎_elim, div-lt_iff_lt-mul, arith}
use Rattle.std.specs.Prelude.{IsTrue, MatchBool, slice_get, if◌then◌else◌}
use Rattle.std.proofs.lemmas.Bool.{cases_eq, ne_eqb, eqb-true}
use Rattle.std.proofs.lemmas.Bool.Decides.{nat_tests}
use Rattle.std.proofs.lemmas.List.{length-set, length-replicate}
use Rattle.std.proofs.lemmas.Option.{slice_get_within}
use Rattle.ebpf_decode.specs.declared.insn.Insn.{Insn}
use Rattle.ebpf_decode.specs.declared.map.MapDef.{MapDef}
use Rattle.semantics.proofs.shared.PlanLemmas.{some_shards}
use Rattle.semantics.specs.declared.options.Options.{Options}
use Rattle.semantics.specs.declared.call.Caller.{Caller}
use Rattle.semantics.specs.declared.call.Caller.TheVariants.{Worker, Controller, Reclaimer}
use Rattle.semantics.specs.declared.call.Call.{Call}
use Rattle.semantics.specs.declared.call.Call.TheVariants.{Enter, Leave, Reclaim}
use Rattle.semantics.specs.declared.call.Reply.{Reply}
use Rattle.semantics.specs.declared.call.Entry.{Entry}
use Rattle.semantics.specs.declared.call.SectionChange.TheVariants.{Begins, Stays}
use Rattle.semantics.specs.Sections.{section_change}
use Rattle.semantics.specs.MachineState.{MachineState, initial_state}
use Rattle.semantics.specs.Step.{Step, Continues, CallsMap, Exits, Traps}
use Rattle.semantics.specs.Semantics.{next_step}
use Rattle.semantics.specs.Reclamation.{is_worker, is_inside}
use Rattle.semantics.specs.ShardPlan.{ShardPlan, plan_for_map, plan_at, AreOptions}
use Rattle.semantics.specs.History.{shard_of_call, Meets, journal_is_full, IsLegalStep, IsLegalHistory}
use Rattle.semantics.specs.System.{Setting, program_of_setting, SystemState, SystemEvent, BeginsRun, DoesInstruction, CallsShard, LeavesShard, Controls, Reclaims, WorkerState, Idle, Runs, Leaves, worker_state, history_of, with_worker, with_entry, is_entered, entry_for, input_frame, opening_system, run_over, without_shard, is_local, DoesNext, MayLeave, MayCall, CanHappen, CanAllFollow, CanAllHappen, after_all, after_local, after_instruction, after_call, after_run_call, after_asking, after_shard_call, after_leaving, after_event, system_after}
use Rattle.semantics.proofs.QuietLemmas.{IsQuiet, run_is_quiet}
use Rattle.semantics.specs.Safety.{IsServedAt, after_enter, IsServedCall, DoesNotTrap, IsSafeWorker, IsSafeImage}
use Rattle.semantics.proofs.shared.SystemSteps.{state_there, state_elsewhere, history_there, history_elsewhere, gone, same_everywhere}

-- ---- plans

pub record IsPlanAt (maps : List MapDef) (options : Options) (number : ℕ) (plan : ShardPlan) : Type 0 where
  pub numbered : plan.number ≡ number
  pub workers : plan.workers ≡ options.workers
  pub within : number / options.shards < length maps

planned_by : (maps : List MapDef) (options : Options) (number : ℕ) (found : Option MapDef) (plan : ShardPlan) → slice_get maps (number / options.shards) ≡ found →
    plan_for_map options number found ≡ Some plan → IsPlanAt maps options number plan
planned_by maps options number None plan is planned = absurd cc
planned_by maps options number (Some definition) plan is planned =
    let same : (record { number = number; part = number % options.shards; parts = options.shards; definition = definition; workers = options.workers; reserve = options.journal }) ≡ plan = cc
    in subst (λ one. IsPlanAt maps options number one) same (record { numbered = refl; workers = refl; within = slice_get_within maps (number / options.shards) definition is })

planned : (maps : List MapDef) (options : Options) (number : ℕ) (plan : ShardPlan) → plan_at maps options number ≡ Some plan → IsPlanAt maps options number plan
planned maps options number plan is = planned_by maps options number (slice_get maps (number / options.shards)) plan refl is

-- ---- what is known of every system that is reached

abbrev entered_of : WorkerState → List ℕ
entered_of Idle = []
entered_of (Runs state entered) = entered
entered_of (Leaves entered) = entered

abbrev is_busy : WorkerState → Bool
is_busy Idle = false
is_busy (Runs state entered) = true
is_busy (Leaves entered) = true

record IsOrderly (setting : Setting) (system : SystemState) : Type 0 where
  eight : length system.workers ≡ 8
  shards : length system.histories ≡ length setting.maps * setting.options.shards
  -- a worker is inside the shards that its run has entered
  inside : (worker shard : ℕ) → is_entered shard (entered_of (worker_state system worker)) ≡ true → is_inside worker (history_of system shard) ≡ true
  -- who does something is one of the options' workers
  counted : (worker : ℕ) → is_busy (worker_state system worker) ≡ true → worker < setting.options.workers
  legal : (number : ℕ) (plan : ShardPlan) → plan_at setting.maps setting.options number ≡ Some plan → IsLegalHistory plan (history_of system number)

record IsSetting (setting : Setting) : Type 0 where
  options : AreOptions setting.maps setting.options

-- ---- lists of workers and histories

within_histories : (setting : Setting) (system : SystemState) (number : ℕ) (plan : ShardPlan) → IsSetting setting → IsOrderly setting system → plan_at setting.maps setting.options number ≡ Some plan →
    plan.number < length system.histories
within_histories setting system number plan good orderly is =
    let at = planned setting.maps setting.options number plan is
    in let below : number < length setting.maps * setting.options.shards = (div-lt_iff_lt-mul (some_shards setting.maps setting.options good.options)).0 at.within
    in let numbered : plan.number ≡ number = at.numbered
    in let total : length system.histories ≡ length setting.maps * setting.options.shards = orderly.shards
    in omega arith

-- ---- one more entry

legal_grown : (setting : Setting) (system : SystemState) (number : ℕ) (plan : ShardPlan) (who : Caller) (call : Call) → IsSetting setting → IsOrderly setting system →
    plan_at setting.maps setting.options number ≡ Some plan → Meets plan (history_of system plan.number) who call → journal_is_full plan (history_of system plan.number) call ≡ false →
    (other : ℕ) (its : ShardPlan) → plan_at setting.maps setting.options other ≡ Some its → IsLegalHistory its (history_of (with_entry system plan.number (entry_for plan system who call)) other)
legal_grown setting system number plan who call good orderly is met room other its is_its =
    let at = planned setting.maps setting.options number plan is
    in let within : plan.number < length system.histories = within_histories setting system number plan good orderly is
    in ⊎_elim
    (λ same.
    let at_number : other ≡ number = same ∙ at.numbered
    in let one : its ≡ plan = (let e : Some its ≡ Some plan = sym is_its ∙ ap (plan_at setting.maps setting.options) at_number ∙ is in cc)
    in let before : IsLegalHistory plan (history_of system plan.number) = subst (λ n. IsLegalHistory plan (history_of system n)) (sym at.numbered) (orderly.legal number plan is)
    in let step : IsLegalStep plan (history_of system plan.number) (entry_for plan system who call) = record { step = record { met = met; replied = refl }; room = room }
    in let now : IsLegalHistory plan (entry_for plan system who call ∷ history_of system plan.number) = (step, before)
    in rw (one, same, history_there system plan.number (entry_for plan system who call) within) now)
    (λ apart. rw (history_elsewhere system plan.number other (entry_for plan system who call) apart) (orderly.legal other its is_its))
    (cases_eq other plan.number)

-- an entry of another changes nothing of who is inside
inside_other : (system : SystemState) (number worker shard : ℕ) (entry : Entry) → number < length system.histories → is_worker worker entry.who ≡ false →
    is_inside worker (history_of system shard) ≡ true → is_inside worker (history_of (with_entry system number entry) shard) ≡ true
inside_other system number worker shard entry within other held = ⊎_elim
    (λ same. subst (λ n. is_inside worker (history_of (with_entry system number entry) n) ≡ true) (sym same)
    (ap (is_inside worker) (history_there system number entry within) ∙ now (subst (λ n. is_inside worker (history_of system n) ≡ true) same held)))
    (λ apart. ap (is_inside worker) (history_elsewhere system number shard entry apart) ∙ held)
    (cases_eq shard number)
  where
    now : is_inside worker (history_of system number) ≡ true → is_inside worker (entry ∷ history_of system number) ≡ true
    now inside = rw other inside

-- an own entry by which the worker stays inside
inside_own : (system : SystemState) (number worker shard : ℕ) (entry : Entry) → number < length system.histories →
    (is_inside worker (history_of system number) ≡ true → is_inside worker (entry ∷ history_of system number) ≡ true) →
    is_inside worker (history_of system shard) ≡ true → is_inside worker (history_of (with_entry system number entry) shard) ≡ true
inside_own system number worker shard entry within stays held = ⊎_elim
    (λ same. subst (λ n. is_inside worker (history_of (with_entry system number entry) n) ≡ true) (sym same)
    (ap (is_inside worker) (history_there system number entry within) ∙ stays (subst (λ n. is_inside worker (history_of system n) ≡ true) same held)))
    (λ apart. ap (is_inside worker) (history_elsewhere system number shard entry apart) ∙ held)
    (cases_eq shard number)

-- ---- workers that go on

-- a worker's state changes, and its shards with it as they may
worker_goes_on : (setting : Setting) (system : SystemState) (worker : ℕ) (now : WorkerState) → IsSetting setting → IsOrderly setting system → worker < setting.options.workers →
    ((shard : ℕ) → is_entered shard (entered_of now) ≡ true → is_inside worker (history_of system shard) ≡ true) → IsOrderly setting (with_worker system worker now)
worker_goes_on setting system worker now good orderly few inside =
    let eight : length system.workers ≡ 8 = orderly.eight
    in let most : setting.options.workers ≤ 8 = good.options.at_most_eight
    in let small : worker < length system.workers = omega arith
    in record {
      eight = length-set system.workers worker now ∙ orderly.eight;
      shards = orderly.shards;
      inside = λ other shard is_in. ⊎_elim
          (λ same. rw same (inside shard (sym (ap (λ st. is_entered shard (entered_of st)) (state_there system worker now small)) ∙ ap (λ w. is_entered shard (entered_of (worker_state (with_worker system worker now) w))) (sym same) ∙ is_in)))
          (λ apart. orderly.inside other shard (sym (ap (λ st. is_entered shard (entered_of st)) (state_elsewhere system worker other now apart)) ∙ is_in))
          (cases_eq other worker);
      counted = λ other busy. ⊎_elim
          (λ same. rw same few)
          (λ apart. orderly.counted other (sym (ap is_busy (state_elsewhere system worker other now apart)) ∙ busy))
          (cases_eq other worker);
      legal = orderly.legal;
    }

other_worker : (worker other : ℕ) → other ≢ worker → is_worker other (Worker worker) ≡ false
other_worker worker other apart = ne_eqb worker other (λ same. apart (sym same))

own_worker : (worker : ℕ) → is_worker worker (Worker worker) ≡ true
own_worker worker = grind (arith, nat_tests)

-- a worker's entry in a shard, and what its run then is
entry_goes_on : (setting : Setting) (system : SystemState) (number : ℕ) (plan : ShardPlan) (worker : ℕ) (call : Call) (now : WorkerState) → IsSetting setting → IsOrderly setting system →
    plan_at setting.maps setting.options number ≡ Some plan → Meets plan (history_of system plan.number) (Worker worker) call → journal_is_full plan (history_of system plan.number) call ≡ false → worker < setting.options.workers →
    ((shard : ℕ) → is_entered shard (entered_of now) ≡ true → is_inside worker (history_of (with_entry system plan.number (entry_for plan system (Worker worker) call)) shard) ≡ true) →
    IsOrderly setting (with_worker (with_entry system plan.number (entry_for plan system (Worker worker) call)) worker now)
entry_goes_on setting system number plan worker call now good orderly is met room few inside =
    let eight : length system.workers ≡ 8 = orderly.eight
    in let most : setting.options.workers ≤ 8 = good.options.at_most_eight
    in let small : worker < length system.workers = omega arith
    in let within : plan.number < length system.histories = within_histories setting system number plan good orderly is
    in let entry : Entry = entry_for plan system (Worker worker) call
    in record {
      eight = length-set system.workers worker now ∙ orderly.eight;
      shards = length-set system.histories plan.number (entry_for plan system (Worker worker) call ∷ history_of system plan.number) ∙ orderly.shards;
      inside = λ other shard is_in. ⊎_elim
          (λ same. rw same (inside shard (sym (ap (λ st. is_entered shard (entered_of st)) (state_there system worker now small)) ∙ ap (λ w. is_entered shard (entered_of (worker_state (with_worker system worker now) w))) (sym same) ∙ is_in)))
          (λ apart. inside_other system plan.number other shard (entry_for plan system (Worker worker) call) within (other_worker worker other apart)
          (orderly.inside other shard (sym (ap (λ st. is_entered shard (entered_of st)) (state_elsewhere system worker other now apart)) ∙ is_in)))
          (cases_eq other worker);
      counted = λ other busy. ⊎_elim
          (λ same. rw same few)
          (λ apart. orderly.counted other (sym (ap is_busy (state_elsewhere system worker other now apart)) ∙ busy))
          (cases_eq other worker);
      legal = legal_grown setting system number plan (Worker worker) call good orderly is met room;
    }

-- ---- the controller and the reclaimer

foreign_entry : (setting : Setting) (system : SystemState) (number : ℕ) (plan : ShardPlan) (who : Caller) (call : Call) → IsSetting setting → IsOrderly setting system →
    plan_at setting.maps setting.options number ≡ Some plan → Meets plan (history_of system plan.number) who call → journal_is_full plan (history_of system plan.number) call ≡ false →
    ((worker : ℕ) → is_worker worker who ≡ false) → IsOrderly setting (with_entry system plan.number (entry_for plan system who call))
foreign_entry setting system number plan who call good orderly is met room nobody =
    let within : plan.number < length system.histories = within_histories setting system number plan good orderly is
    in record {
      eight = orderly.eight;
      shards = length-set system.histories plan.number (entry_for plan system who call ∷ history_of system plan.number) ∙ orderly.shards;
      inside = λ worker shard is_in. inside_other system plan.number worker shard (entry_for plan system who call) within (nobody worker) (orderly.inside worker shard is_in);
      counted = orderly.counted;
      legal = legal_grown setting system number plan who call good orderly is met room;
    }

-- a full journal refuses
by_full : (setting : Setting) (one other : SystemState) (full : Bool) → (full ≡ true → IsOrderly setting one) → (full ≡ false → IsOrderly setting other) → IsOrderly setting (if full then one else other)
by_full setting one other true stopped served = stopped refl
by_full setting one other false stopped served = served refl

foreign_call : (setting : Setting) (system : SystemState) (number : ℕ) (found : Option ShardPlan) (who : Caller) (call : Call) → IsSetting setting → IsOrderly setting system →
    plan_at setting.maps setting.options number ≡ found → MayCall found system who call → ((worker : ℕ) → is_worker worker who ≡ false) → IsOrderly setting (after_call found system who call)
foreign_call setting system number None who call good orderly is may nobody = absurd may
foreign_call setting system number (Some plan) who call good orderly is may nobody =
    by_full setting system (with_entry system plan.number (entry_for plan system who call)) (journal_is_full plan (history_of system plan.number) call)
    (λ full. orderly) (λ room. foreign_entry setting system number plan who call good orderly is may room nobody)

-- ---- a worker leaves

over_entered : (entered : List ℕ) → entered_of (run_over entered) ≡ entered
over_entered [] = refl
over_entered (shard ∷ entered) = refl

still_by : (shard other one : ℕ) (entered : List ℕ) (same : Bool) → (is_entered other (without_shard shard entered) ≡ true → is_entered other entered ≡ true) →
    is_entered other (if not same then one ∷ without_shard shard entered else without_shard shard entered) ≡ true → is_entered other (one ∷ entered) ≡ true
still_by shard other one entered true rest h = or_second (one == other) (is_entered other entered) (rest h)
  where
    or_second : (a b : Bool) → b ≡ true → (a || b) ≡ true
    or_second true b is = refl
    or_second false b is = is
still_by shard other one entered false rest h = by_one (one == other) h
  where
    by_one : (a : Bool) → (a || is_entered other (without_shard shard entered)) ≡ true → (a || is_entered other entered) ≡ true
    by_one true is = refl
    by_one false is = rest is

still : (shard other : ℕ) (entered : List ℕ) → is_entered other (without_shard shard entered) ≡ true → is_entered other entered ≡ true
still shard other [] h = h
still shard other (one ∷ entered) h = still_by shard other one entered (one == shard) (still shard other entered) h

meets_by : (plan : ShardPlan) (history : List Entry) (worker shard : ℕ) (call : Call) → (shard == plan.number) ≡ true → nat_lt worker plan.workers ≡ true → is_inside worker history ≡ true →
    ((shard == plan.number) && (nat_lt worker plan.workers && is_inside worker history)) ≡ true
meets_by plan history worker shard call same few inside = rw (same, few, inside) refl

leaves : (setting : Setting) (system : SystemState) (worker shard : ℕ) (entered : List ℕ) (found : Option ShardPlan) → IsSetting setting → IsOrderly setting system → worker_state system worker ≡ Leaves entered →
    is_entered shard entered ≡ true → plan_at setting.maps setting.options shard ≡ found →
    IsOrderly setting (after_run_call found system worker (Leave shard) entered (λ reply. run_over (without_shard shard entered)))
leaves setting system worker shard entered None good orderly is into found = orderly
leaves setting system worker shard entered (Some plan) good orderly is into found =
    let at = planned setting.maps setting.options shard plan found
    in let few : worker < setting.options.workers = orderly.counted worker (ap is_busy is)
    in let numbered : plan.number ≡ shard = at.numbered
    in let known : worker < plan.workers = omega (arith, at.workers, few)
    in let inside_at : is_inside worker (history_of system shard) ≡ true = orderly.inside worker shard (ap (λ st. is_entered shard (entered_of st)) is ∙ into)
    in let inside : is_inside worker (history_of system plan.number) ≡ true = ap (λ n. is_inside worker (history_of system n)) numbered ∙ inside_at
    in let same : (shard == plan.number) ≡ true = grind (arith, nat_tests)
    in let counted : nat_lt worker plan.workers ≡ true = grind (arith, nat_tests)
    in let met : Meets plan (history_of system plan.number) (Worker worker) (Leave shard) = meets_by plan (history_of system plan.number) worker shard (Leave shard) same counted inside
    in entry_goes_on setting system shard plan worker (Leave shard) (run_over (without_shard shard entered)) good orderly found met refl few
    (λ other now.
    let in_rest : is_entered other (without_shard shard entered) ≡ true = sym (ap (is_entered other) (over_entered (without_shard shard entered))) ∙ now
    in let before : is_inside worker (history_of system other) ≡ true = orderly.inside worker other (ap (λ st. is_entered other (entered_of st)) is ∙ still shard other entered in_rest)
    in let apart : other ≢ plan.number = (λ e. let no_more : is_entered other (without_shard shard entered) ≡ false = ap (λ n. is_entered n (without_shard shard entered)) (e ∙ numbered) ∙ gone shard entered in absurd cc)
    in ap (is_inside worker) (history_elsewhere system plan.number other (entry_for plan system (Worker worker) (Leave shard)) apart) ∙ before)

-- ---- a run's call

run_ends : (setting : Setting) (system : SystemState) (worker : ℕ) (state : MachineState) (entered : List ℕ) → IsSetting setting → IsOrderly setting system → worker_state system worker ≡ Runs state entered →
    IsOrderly setting (with_worker system worker (run_over entered))
run_ends setting system worker state entered good orderly is =
    worker_goes_on setting system worker (run_over entered) good orderly (orderly.counted worker (ap is_busy is))
    (λ shard now. orderly.inside worker shard (ap (λ st. is_entered shard (entered_of st)) is ∙ (sym (ap (is_entered shard) (over_entered entered)) ∙ now)))

-- a call that a run makes inside leaves its worker inside, since none but an Enter may be made outside, and no run leaves by itself
stays_inside : (plan : ShardPlan) (history : List Entry) (worker : ℕ) (entry : Entry) → entry.who ≡ Worker worker → section_change entry.call ≡ Stays → is_inside worker history ≡ true → is_inside worker (entry ∷ history) ≡ true
stays_inside plan history worker entry who stays inside = rw (who, own_worker worker, stays) inside

enters_inside : (history : List Entry) (worker : ℕ) (entry : Entry) → entry.who ≡ Worker worker → section_change entry.call ≡ Begins → is_inside worker (entry ∷ history) ≡ true
enters_inside history worker entry who begins = rw (who, own_worker worker, begins) refl

entered_more : (shard other : ℕ) (entered : List ℕ) → is_entered other (shard ∷ entered) ≡ true → (P : Type 0) → (shard ≡ other → P) → (is_entered other entered ≡ true → P) → P
entered_more shard other entered now P here rest = by_test (shard == other) refl now
  where
    by_test : (t : Bool) → (shard == other) ≡ t → (t || is_entered other entered) ≡ true → P
    by_test true is now = here (eqb-true shard other is)
    by_test false is now = rest now

enters : (setting : Setting) (system : SystemState) (worker number : ℕ) (state : MachineState) (entered : List ℕ) (found : Option ShardPlan) → IsSetting setting → IsOrderly setting system →
    worker_state system worker ≡ Runs state entered → plan_at setting.maps setting.options number ≡ found →
    ((plan : ShardPlan) → found ≡ Some plan → Meets plan (history_of system plan.number) (Worker worker) (Enter plan.number)) →
    IsOrderly setting (after_run_call found system worker (Enter number) entered (λ reply. Runs state (number ∷ entered)))
enters setting system worker number state entered None good orderly is found met = orderly
enters setting system worker number state entered (Some plan) good orderly is found met =
    let at = planned setting.maps setting.options number plan found
    in let within : plan.number < length system.histories = within_histories setting system number plan good orderly found
    in let meeting : Meets plan (history_of system plan.number) (Worker worker) (Enter number) = subst (λ n. Meets plan (history_of system plan.number) (Worker worker) (Enter n)) at.numbered (met plan refl)
    in by_full setting (with_worker system worker (run_over entered)) (with_worker (with_entry system plan.number (entry_for plan system (Worker worker) (Enter number))) worker (Runs state (number ∷ entered)))
    (journal_is_full plan (history_of system plan.number) (Enter number)) (λ full. run_ends setting system worker state entered good orderly is)
    (λ room. entry_goes_on setting system number plan worker (Enter number) (Runs state (number ∷ entered)) good orderly found meeting room (orderly.counted worker (ap is_busy is))
    (λ other now. entered_more number other entered now (is_inside worker (history_of (with_entry system plan.number (entry_for plan system (Worker worker) (Enter number))) other) ≡ true)
    (λ same. subst (λ n. is_inside worker (history_of (with_entry system plan.number (entry_for plan system (Worker worker) (Enter number))) n) ≡ true) (at.numbered ∙ same)
    (ap (is_inside worker) (history_there system plan.number (entry_for plan system (Worker worker) (Enter number)) within) ∙ enters_inside (history_of system plan.number) worker (entry_for plan system (Worker worker) (Enter number)) refl refl))
    (λ before. inside_own system plan.number worker other (entry_for plan system (Worker worker) (Enter number)) within
    (λ inside. enters_inside (history_of system plan.number) worker (entry_for plan system (Worker worker) (Enter number)) refl refl)
    (orderly.inside worker other (ap (λ st. is_entered other (entered_of st)) is ∙ before)))))

asks : (setting : Setting) (system : SystemState) (worker number : ℕ) (call : Call) (state : MachineState) (next : Reply → MachineState) (entered : List ℕ) (found : Option ShardPlan) → IsSetting setting → IsOrderly setting system →
    worker_state system worker ≡ Runs state entered → plan_at setting.maps setting.options number ≡ found → section_change call ≡ Stays →
    ((plan : ShardPlan) → found ≡ Some plan → Meets plan (history_of system plan.number) (Worker worker) call) →
    IsOrderly setting (after_run_call found system worker call entered (λ reply. Runs (next reply) entered))
asks setting system worker number call state next entered None good orderly is found stays met = orderly
asks setting system worker number call state next entered (Some plan) good orderly is found stays met =
    let within : plan.number < length system.histories = within_histories setting system number plan good orderly found
    in by_full setting (with_worker system worker (run_over entered)) (with_worker (with_entry system plan.number (entry_for plan system (Worker worker) call)) worker (Runs (next (entry_for plan system (Worker worker) call).reply) entered))
    (journal_is_full plan (history_of system plan.number) call) (λ full. run_ends setting system worker state entered good orderly is)
    (λ room. entry_goes_on setting system number plan worker call (Runs (next (entry_for plan system (Worker worker) call).reply) entered) good orderly found (met plan refl) room (orderly.counted worker (ap is_busy is))
    (λ other now. inside_own system plan.number worker other (entry_for plan system (Worker worker) call) within
    (λ inside. stays_inside plan (history_of system plan.number) worker (entry_for plan system (Worker worker) call) refl stays inside)
    (orderly.inside worker other (ap (λ st. is_entered other (entered_of st)) is ∙ now))))

-- ---- what a safe run may call

abbrev IsServedInside : ShardPlan → SystemState → ℕ → Call → Type 0
IsServedInside plan system worker call = IsServedAt plan (history_of system plan.number) worker call

abbrev IsServedOutside : ShardPlan → SystemState → ℕ → Call → Type 0
IsServedOutside plan system worker call =
    Meets plan (history_of system plan.number) (Worker worker) (Enter plan.number) × IsServedAt plan (after_enter plan (history_of system plan.number) worker) worker call

entered_may : (plan : ShardPlan) (system : SystemState) (worker : ℕ) (entered : List ℕ) (call : Call) → is_entered plan.number entered ≡ true →
    IsServedCall (Some plan) system worker entered call → Meets plan (history_of system plan.number) (Worker worker) call
entered_may plan system worker entered call is served =
    (subst (λ test. MatchBool test (IsServedInside plan system worker call) (IsServedOutside plan system worker call)) is served).0

outside_may : (plan : ShardPlan) (system : SystemState) (worker : ℕ) (entered : List ℕ) (call : Call) → is_entered plan.number entered ≡ false →
    IsServedCall (Some plan) system worker entered call → Meets plan (history_of system plan.number) (Worker worker) (Enter plan.number)
outside_may plan system worker entered call is served =
    (subst (λ test. MatchBool test (IsServedInside plan system worker call) (IsServedOutside plan system worker call)) is served).0

calls_orderly : (setting : Setting) (system : SystemState) (worker : ℕ) (state : MachineState) (entered : List ℕ) (call : Call) (next : Reply → MachineState) → IsSetting setting → IsOrderly setting system →
    worker_state system worker ≡ Runs state entered → section_change call ≡ Stays →
    IsServedCall (plan_at setting.maps setting.options (shard_of_call call)) system worker entered call → (into : Bool) → is_entered (shard_of_call call) entered ≡ into →
    IsOrderly setting (if into
    then after_run_call (plan_at setting.maps setting.options (shard_of_call call)) system worker call entered (λ reply. Runs (next reply) entered)
    else after_run_call (plan_at setting.maps setting.options (shard_of_call call)) system worker (Enter (shard_of_call call)) entered (λ reply. Runs state (shard_of_call call ∷ entered)))
calls_orderly setting system worker state entered call next good orderly is stays served true into =
    asks setting system worker (shard_of_call call) call state next entered (plan_at setting.maps setting.options (shard_of_call call)) good orderly is refl stays
    (λ plan found.
    let numbered : plan.number ≡ shard_of_call call = (planned setting.maps setting.options (shard_of_call call) plan found).numbered
    in entered_may plan system worker entered call (ap (λ n. is_entered n entered) numbered ∙ into) (subst (λ one. IsServedCall one system worker entered call) found served))
calls_orderly setting system worker state entered call next good orderly is stays served false outside =
    enters setting system worker (shard_of_call call) state entered (plan_at setting.maps setting.options (shard_of_call call)) good orderly is refl
    (λ plan found.
    let numbered : plan.number ≡ shard_of_call call = (planned setting.maps setting.options (shard_of_call call) plan found).numbered
    in outside_may plan system worker entered call (ap (λ n. is_entered n entered) numbered ∙ outside) (subst (λ one. IsServedCall one system worker entered call) found served))

asking_orderly : (setting : Setting) (system : SystemState) (worker : ℕ) (state : MachineState) (entered : List ℕ) (step : Step) → IsSetting setting → IsOrderly setting system →
    worker_state system worker ≡ Runs state entered → IsQuiet step → DoesNotTrap setting system worker entered step → IsOrderly setting (after_asking setting system worker state entered step)
asking_orderly setting system worker state entered (CallsMap call next) good orderly is quiet safe =
    calls_orderly setting system worker state entered call next good orderly is quiet safe (is_entered (shard_of_call call) entered) refl
asking_orderly setting system worker state entered (Continues next) good orderly is quiet safe = orderly
asking_orderly setting system worker state entered (Exits verdict last) good orderly is quiet safe = orderly
asking_orderly setting system worker state entered (Traps cause) good orderly is quiet safe = orderly

-- ---- each event

calls_soundly : (setting : Setting) (system : SystemState) (worker : ℕ) (now : WorkerState) → IsSetting setting → IsOrderly setting system → worker_state system worker ≡ now →
    IsSafeWorker setting system worker now → IsOrderly setting (after_shard_call setting system worker now)
calls_soundly setting system worker Idle good orderly is safe = orderly
calls_soundly setting system worker (Leaves entered) good orderly is safe = orderly
calls_soundly setting system worker (Runs state entered) good orderly is safe =
    asking_orderly setting system worker state entered (next_step (program_of_setting setting) state) good orderly is (run_is_quiet (program_of_setting setting) state) safe.goes_on

does_soundly : (setting : Setting) (system : SystemState) (worker : ℕ) (state : MachineState) (entered : List ℕ) (step : Step) → IsSetting setting → IsOrderly setting system → worker_state system worker ≡ Runs state entered →
    IsTrue (is_local step) → IsOrderly setting (with_worker system worker (after_local step entered (Runs state entered)))
does_soundly setting system worker state entered (Continues next) good orderly is local =
    worker_goes_on setting system worker (Runs next entered) good orderly (orderly.counted worker (ap is_busy is)) (λ shard now. orderly.inside worker shard (ap (λ st. is_entered shard (entered_of st)) is ∙ now))
does_soundly setting system worker state entered (Exits verdict last) good orderly is local = run_ends setting system worker state entered good orderly is
does_soundly setting system worker state entered (CallsMap call next) good orderly is local = absurd cc
does_soundly setting system worker state entered (Traps cause) good orderly is local = absurd cc

instruction_soundly : (setting : Setting) (system : SystemState) (worker : ℕ) (now : WorkerState) → IsSetting setting → IsOrderly setting system → worker_state system worker ≡ now →
    DoesNext setting now is_local → IsOrderly setting (with_worker system worker (after_instruction setting now))
instruction_soundly setting system worker Idle good orderly is can = absurd can
instruction_soundly setting system worker (Leaves entered) good orderly is can = absurd can
instruction_soundly setting system worker (Runs state entered) good orderly is can =
    does_soundly setting system worker state entered (next_step (program_of_setting setting) state) good orderly is can

leaves_soundly : (setting : Setting) (system : SystemState) (worker shard : ℕ) (now : WorkerState) → IsSetting setting → IsOrderly setting system → worker_state system worker ≡ now → MayLeave now shard →
    IsOrderly setting (after_leaving setting system worker shard now)
leaves_soundly setting system worker shard Idle good orderly is may = orderly
leaves_soundly setting system worker shard (Runs state entered) good orderly is may = orderly
leaves_soundly setting system worker shard (Leaves entered) good orderly is may =
    leaves setting system worker shard entered (plan_at setting.maps setting.options shard) good orderly is may refl

nothing_entered : (shard : ℕ) (P : Type 0) → is_entered shard [] ≡ true → P
nothing_entered shard P is = absurd cc

event_orderly : (setting : Setting) (system : SystemState) (event : SystemEvent) → IsSetting setting → CanHappen setting system event → ((worker : ℕ) → IsSafeWorker setting system worker (worker_state system worker)) →
    IsOrderly setting system → IsOrderly setting (after_event setting system event)
event_orderly setting system (BeginsRun worker frame now told) good can safe orderly =
    worker_goes_on setting system worker (Runs (initial_state (input_frame frame) told now) []) good orderly can.0 (λ shard entered. nothing_entered shard _ entered)
event_orderly setting system (DoesInstruction worker) good can safe orderly = instruction_soundly setting system worker (worker_state system worker) good orderly refl can
event_orderly setting system (CallsShard worker) good can safe orderly = calls_soundly setting system worker (worker_state system worker) good orderly refl (safe worker)
event_orderly setting system (LeavesShard worker shard) good can safe orderly = leaves_soundly setting system worker shard (worker_state system worker) good orderly refl can
event_orderly setting system (Controls call) good can safe orderly =
    foreign_call setting system (shard_of_call call) (plan_at setting.maps setting.options (shard_of_call call)) Controller call good orderly refl can.1 (λ worker. refl)
event_orderly setting system (Reclaims shard) good can safe orderly =
    foreign_call setting system shard (plan_at setting.maps setting.options shard) Reclaimer (Reclaim shard) good orderly refl can (λ worker. refl)

-- ---- from the opening on

opening_orderly : (setting : Setting) → IsOrderly setting (opening_system setting)
opening_orderly setting =
    let idle : (worker : ℕ) → worker_state (opening_system setting) worker ≡ Idle = (λ worker. same_everywhere 8 worker Idle)
    in let empty : (shard : ℕ) → history_of (opening_system setting) shard ≡ [] = (λ shard. same_everywhere (length setting.maps * setting.options.shards) shard [])
    in record {
      eight = length-replicate 8 Idle;
      shards = length-replicate (length setting.maps * setting.options.shards) [];
      inside = λ worker shard is_in. nothing_entered shard _ (sym (ap (λ st. is_entered shard (entered_of st)) (idle worker)) ∙ is_in);
      counted = λ worker busy. let none : false ≡ true = sym (ap is_busy (idle worker)) ∙ busy in absurd cc;
      legal = λ number plan is. rw (empty number) tt;
    }

-- one event more
abbrev opened : List MapDef → List Insn → Options → Setting
opened maps code options = record { maps = maps; code = code; options = options }

after_one_more : (setting : Setting) (before : SystemState) (events : List SystemEvent) (event : SystemEvent) →
    after_all setting before (events ++ event ∷ []) ≡ after_event setting (after_all setting before events) event
after_one_more setting before [] event = refl
after_one_more setting before (one ∷ later) event = after_one_more setting (after_event setting before one) later event

follow_one_more : (setting : Setting) (before : SystemState) (events : List SystemEvent) (event : SystemEvent) → CanAllFollow setting before events →
    CanHappen setting (after_all setting before events) event → CanAllFollow setting before (events ++ event ∷ [])
follow_one_more setting before [] event can next = (next, tt)
follow_one_more setting before (one ∷ later) event can next = (can.0, follow_one_more setting (after_event setting before one) later event can.1 next)

orderly_on : (maps : List MapDef) (code : List Insn) (options : Options) (earlier later : List SystemEvent) → IsSafeImage maps code → AreOptions maps options →
    CanAllHappen (opened maps code options) earlier → CanAllFollow (opened maps code options) (system_after (opened maps code options) earlier) later →
    IsOrderly (opened maps code options) (system_after (opened maps code options) earlier) →
    IsOrderly (opened maps code options) (after_all (opened maps code options) (system_after (opened maps code options) earlier) later)
orderly_on maps code options earlier [] safe fits could can orderly = orderly
orderly_on maps code options earlier (event ∷ later) safe fits could can orderly =
    let same : system_after (opened maps code options) (earlier ++ event ∷ []) ≡ after_event (opened maps code options) (system_after (opened maps code options) earlier) event =
    after_one_more (opened maps code options) (opening_system (opened maps code options)) earlier event
    in subst (λ (system : SystemState). IsOrderly (opened maps code options) (after_all (opened maps code options) system later)) same
    (orderly_on maps code options (earlier ++ event ∷ []) later safe fits
    (follow_one_more (opened maps code options) (opening_system (opened maps code options)) earlier event could can.0)
    (subst (λ (system : SystemState). CanAllFollow (opened maps code options) system later) (sym same) can.1)
    (subst (IsOrderly (opened maps code options)) (sym same)
    (event_orderly (opened maps code options) (system_after (opened maps code options) earlier) event (record { options = fits }) can.0
    (λ worker. safe options fits earlier could worker) orderly)))

pub histories_are_legal : (maps : List MapDef) (code : List Insn) (options : Options) (events : List SystemEvent) → IsSafeImage maps code → AreOptions maps options →
    (let setting : Setting = record { maps = maps; code = code; options = options } in
    CanAllHappen setting events → (number : ℕ) (plan : ShardPlan) → plan_at maps options number ≡ Some plan → IsLegalHistory plan (history_of (system_after setting events) number))
histories_are_legal maps code options events safe fits can number plan is =
    (orderly_on maps code options [] events safe fits tt can (opening_orderly (opened maps code options))).legal number plan is
