-- Events keep the system sound: those of the controller and the reclaimer, and a worker's leaving.
use Rattle.std.proofs.Common.{◌≡◌, ◌≢◌, ℕ, ◌<◌, ◌==◌, ◌*◌, ◌||◌, Bool, true, false, not, List, [], ◌∷◌, length, Option, Some, None, refl, sym, ap, subst, ◌∙◌, ⊎_elim, arith}
use Rattle.std.specs.Prelude.{if◌then◌else◌}
use Rattle.std.proofs.lemmas.Bool.{cases_lt, cases_eq, ne_eqb, eqb-true}
use Rattle.semantics.specs.declared.plan.ShardPlan.{ShardPlan}
use Rattle.semantics.specs.declared.call.Caller.{Caller}
use Rattle.semantics.specs.declared.call.Caller.TheVariants.{Worker}
use Rattle.semantics.specs.declared.call.Call.{Call}
use Rattle.semantics.specs.declared.call.Call.TheVariants.{Leave}
use Rattle.semantics.specs.Reclamation.{is_worker, is_inside}
use Rattle.semantics.specs.ShardPlan.{plan_at}
use Rattle.semantics.specs.History.{Meets, journal_is_full}
use Rattle.semantics.specs.System.{Setting, SystemState, Idle, Leaves, worker_state, history_of, with_entry, is_entered, MayCall, entry_for, run_over, without_shard, after_call, after_run_call}
use Rattle.abstract_state.specs.declared.state.State.{State}
use Rattle.semantics.proofs.shared.PlanLemmas.{some_shards}
use Rattle.verifier.proofs.SystemInvariant.{entered_of, IsSoundWorker, IsSetting, IsSoundSystem}
use Rattle.verifier.proofs.HistoryLemmas.{inside_leave}
use Rattle.verifier.proofs.PlanLemmas.{plan_facts, plan_within, leave_meets}
use Rattle.semantics.proofs.shared.SystemSteps.{history_there, history_elsewhere, gone}
use Rattle.verifier.proofs.EntryLemmas.{foreign_entry, own_entry}

-- ---- the controller and the reclaimer

pub by_full : (setting : Setting) (states : List (Option State)) (one other : SystemState) (full : Bool) → IsSoundSystem setting states one →
    (full ≡ false → IsSoundSystem setting states other) → IsSoundSystem setting states (if full then one else other)
by_full setting states one other true h k = h
by_full setting states one other false h k = k refl

pub call_sound : (setting : Setting) (states : List (Option State)) (system : SystemState) (number : ℕ) (found : Option ShardPlan) (who : Caller) (call : Call) → IsSetting setting states →
    IsSoundSystem setting states system → plan_at setting.maps setting.options number ≡ found → MayCall found system who call → ((worker : ℕ) → is_worker worker who ≡ false) →
    IsSoundSystem setting states (after_call found system who call)
call_sound setting states system number (Some plan) who call good sound planned may nobody =
    by_full setting states system (with_entry system plan.number (entry_for plan system who call)) (journal_is_full plan (history_of system plan.number) call) sound
    (λ room. foreign_entry setting states system number plan who call good sound planned (record { met = may; room = room }) nobody)
call_sound setting states system number None who call good sound planned may nobody = sound

-- ---- leaving

pub over_keeps : (entered : List ℕ) → entered_of (run_over entered) ≡ entered
over_keeps [] = refl
over_keeps (shard ∷ entered) = refl

pub over_sound : (setting : Setting) (states : List (Option State)) (system : SystemState) (worker : ℕ) (entered : List ℕ) → IsSoundWorker setting states system worker (run_over entered)
over_sound setting states system worker [] = tt
over_sound setting states system worker (shard ∷ entered) = tt

-- a worker that does something is one of the options'
pub is_counted : (setting : Setting) (states : List (Option State)) (system : SystemState) (worker : ℕ) → IsSoundSystem setting states system → worker_state system worker ≢ Idle →
    worker < setting.options.workers
is_counted setting states system worker sound busy = ⊎_elim
    (λ few. few)
    (λ many. absurd (busy (sound.numbers worker many)))
    (cases_lt worker setting.options.workers)

other_by : (shard other one : ℕ) (entered : List ℕ) (same : Bool) → (one == shard) ≡ same → (one == shard ≡ true → (one == other) ≡ false) →
    is_entered other (without_shard shard entered) ≡ is_entered other entered →
    is_entered other (if not same then one ∷ without_shard shard entered else without_shard shard entered) ≡ is_entered other (one ∷ entered)
other_by shard other one entered true e apart h = rw (apart e) h
other_by shard other one entered false e apart h = ap (λ rest. (one == other) || rest) h

apart_from : (shard other one : ℕ) → other ≢ shard → (one == shard) ≡ true → (one == other) ≡ false
apart_from shard other one differ e = ne_eqb one other (λ same. differ (sym same ∙ eqb-true one shard e))

pub others_stay : (shard other : ℕ) (entered : List ℕ) → other ≢ shard → is_entered other (without_shard shard entered) ≡ is_entered other entered
others_stay shard other [] differ = refl
others_stay shard other (one ∷ entered) differ =
    other_by shard other one entered (one == shard) refl (apart_from shard other one differ) (others_stay shard other entered differ)

pub leave_sound : (setting : Setting) (states : List (Option State)) (system : SystemState) (worker shard : ℕ) (entered : List ℕ) (found : Option ShardPlan) → IsSetting setting states →
    IsSoundSystem setting states system → worker_state system worker ≡ Leaves entered → is_entered shard entered ≡ true → plan_at setting.maps setting.options shard ≡ found →
    IsSoundSystem setting states (after_run_call found system worker (Leave shard) entered (λ reply. run_over (without_shard shard entered)))
leave_sound setting states system worker shard entered None good sound is into planned = sound
leave_sound setting states system worker shard entered (Some plan) good sound is into planned =
    let few : worker < setting.options.workers = is_counted setting states system worker sound (λ idle. let e : Idle ≡ Leaves entered = sym idle ∙ is in absurd cc)
    in let at : plan.number ≡ shard = (plan_facts setting.maps setting.options shard plan planned).number
    in let total : length system.histories ≡ length setting.maps * setting.options.shards = sound.shards
    in let inside_all : shard < length setting.maps * setting.options.shards = plan_within setting.maps setting.options shard plan (some_shards setting.maps setting.options good.options) planned
    in let within : plan.number < length system.histories = omega arith
    in let known : worker < plan.workers = omega (arith, (plan_facts setting.maps setting.options shard plan planned).workers, few)
    in let inside_at : is_inside worker (history_of system plan.number) ≡ true =
    ap (λ n. is_inside worker (history_of system n)) at ∙ sound.inside worker shard ∙ ap (λ st. is_entered shard (entered_of st)) is ∙ into
    in let met : Meets plan (history_of system plan.number) (Worker worker) (Leave shard) =
    subst (λ n. Meets plan (history_of system plan.number) (Worker worker) (Leave n)) at (leave_meets plan (history_of system plan.number) worker known inside_at)
    in own_entry setting states system shard plan worker (Leave shard) (run_over (without_shard shard entered)) good sound planned (record { met = met; room = refl }) few
    (λ s. ⊎_elim
    (λ same.
    let now : is_inside worker (history_of (with_entry system plan.number (entry_for plan system (Worker worker) (Leave shard))) plan.number) ≡ false =
    ap (is_inside worker) (history_there system plan.number (entry_for plan system (Worker worker) (Leave shard)) within)
    ∙ inside_leave worker shard (entry_for plan system (Worker worker) (Leave shard)) (history_of system plan.number) refl refl
    in let left : is_entered s (entered_of (run_over (without_shard shard entered))) ≡ false =
    ap (is_entered s) (over_keeps (without_shard shard entered)) ∙ ap (λ n. is_entered n (without_shard shard entered)) (same ∙ at) ∙ gone shard entered
    in ap (λ n. is_inside worker (history_of (with_entry system plan.number (entry_for plan system (Worker worker) (Leave shard))) n)) same ∙ now ∙ sym left)
    (λ apart. ap (is_inside worker) (history_elsewhere system plan.number s (entry_for plan system (Worker worker) (Leave shard)) apart)
    ∙ sound.inside worker s ∙ ap (λ st. is_entered s (entered_of st)) is
    ∙ sym (ap (is_entered s) (over_keeps (without_shard shard entered)) ∙ others_stay shard s entered (λ e. apart (e ∙ sym at))))
    (cases_eq s plan.number))
    (λ s still. ⊎_elim
    (λ same. let no_more : is_entered s (entered_of (run_over (without_shard shard entered))) ≡ false =
    ap (is_entered s) (over_keeps (without_shard shard entered)) ∙ ap (λ n. is_entered n (without_shard shard entered)) same ∙ gone shard entered
    in absurd cc)
    (λ apart. sound.entered worker s (ap (λ st. is_entered s (entered_of st)) is ∙ sym (others_stay shard s entered apart)
    ∙ sym (ap (is_entered s) (over_keeps (without_shard shard entered))) ∙ still))
    (cases_eq s shard))
    (over_sound setting states (with_entry system plan.number (entry_for plan system (Worker worker) (Leave shard))) worker (without_shard shard entered))
