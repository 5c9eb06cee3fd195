-- One more entry in one shard's history: what every other worker knows stays, and the shard stays sound.
use Rattle.std.proofs.Common.{◌≡◌, ℕ, ◌*◌, ◌/◌, ◌<◌, ◌≤◌, ◌==◌, ◌&&◌, true, false, List, ◌∷◌, length, Option, Some, refl, sym, ap, subst, ◌∙◌, ⊎_elim, arith}
use Rattle.std.specs.Prelude.{IsTrue}
use Rattle.std.proofs.lemmas.Bool.{cases_eq}
use Rattle.std.proofs.lemmas.List.{length-set}
use Rattle.semantics.specs.declared.plan.ShardPlan.{ShardPlan}
use Rattle.semantics.specs.declared.call.Caller.{Caller}
use Rattle.semantics.specs.declared.call.Caller.TheVariants.{Worker}
use Rattle.semantics.specs.declared.call.Call.{Call}
use Rattle.semantics.specs.declared.call.Entry.{Entry}
use Rattle.semantics.specs.Reclamation.{is_worker, is_inside, holds}
use Rattle.semantics.specs.ShardPlan.{plan_at}
use Rattle.semantics.specs.System.{Setting, SystemState, WorkerState, Idle, Runs, Leaves, worker_state, history_of, with_worker, with_entry, is_entered, entry_for}
use Rattle.abstract_state.specs.declared.state.State.{State}
use Rattle.abstract_state.proofs.shared.Writing.{held_more}
use Rattle.semantics.proofs.shared.PlanLemmas.{some_shards}
use Rattle.verifier.proofs.SystemInvariant.{entered_of, held_in_run, IsSoundWorker, IsSoundShard, IsSetting, IsSoundSystem}
use Rattle.verifier.proofs.HistoryLemmas.{inside_other, holds_other, is_another}
use Rattle.verifier.proofs.PlanLemmas.{plan_facts, plan_within}
use Rattle.verifier.proofs.ShardLemmas.{IsPermitted}
use Rattle.verifier.proofs.SettingLemmas.{entry_sound}
use Rattle.semantics.proofs.shared.SystemSteps.{state_there, state_elsewhere, history_there, history_elsewhere}

-- ---- who made no entry

pub inside_kept : (system : SystemState) (number shard worker : ℕ) (entry : Entry) → number < length system.histories → is_worker worker entry.who ≡ false →
    is_inside worker (history_of (with_entry system number entry) shard) ≡ is_inside worker (history_of system shard)
inside_kept system number shard worker entry h nobody = ⊎_elim
    (λ same. subst (λ n. is_inside worker (history_of (with_entry system number entry) n) ≡ is_inside worker (history_of system n)) (sym same)
    (ap (is_inside worker) (history_there system number entry h) ∙ inside_other worker entry (history_of system number) nobody))
    (λ other. ap (is_inside worker) (history_elsewhere system number shard entry other))
    (cases_eq shard number)

pub holds_kept : (system : SystemState) (number shard worker cell : ℕ) (entry : Entry) → number < length system.histories → is_worker worker entry.who ≡ false →
    holds worker cell (history_of (with_entry system number entry) shard) ≡ holds worker cell (history_of system shard)
holds_kept system number shard worker cell entry h nobody = ⊎_elim
    (λ same. subst (λ n. holds worker cell (history_of (with_entry system number entry) n) ≡ holds worker cell (history_of system n)) (sym same)
    (ap (holds worker cell) (history_there system number entry h) ∙ holds_other worker cell entry (history_of system number) nobody))
    (λ other. ap (holds worker cell) (history_elsewhere system number shard entry other))
    (cases_eq shard number)

-- a run goes on to be sound where it holds no less
pub run_kept : (setting : Setting) (states : List (Option State)) (before after : SystemState) (worker : ℕ) (known : WorkerState) →
    ((shard cell : ℕ) → holds worker cell (history_of after shard) ≡ holds worker cell (history_of before shard)) →
    IsSoundWorker setting states before worker known → IsSoundWorker setting states after worker known
run_kept setting states before after worker Idle same sound = tt
run_kept setting states before after worker (Leaves entered) same sound = tt
run_kept setting states before after worker (Runs state entered) same run = record {
  known = run.known;
  at = run.at;
  begins = run.begins;
  sound = held_more setting.maps (held_in_run setting before worker entered) (held_in_run setting after worker entered) run.known state
      (λ map shard cell held. subst IsTrue (sym (ap (λ b. (shard / setting.options.shards == map) && (is_entered shard entered && b)) (same shard cell))) held) run.sound;
  few = run.few;
}

-- ---- the shards

each_kept : (setting : Setting) (states : List (Option State)) (system : SystemState) (number : ℕ) (plan : ShardPlan) (who : Caller) (call : Call) → IsSetting setting states →
    IsSoundSystem setting states system → plan_at setting.maps setting.options number ≡ Some plan → IsPermitted plan (history_of system plan.number) who call → plan.number ≡ number → number < length system.histories →
    (shard : ℕ) (other : ShardPlan) → plan_at setting.maps setting.options shard ≡ Some other →
    IsSoundShard other (history_of (with_entry system plan.number (entry_for plan system who call)) shard)
each_kept setting states system number plan who call good sound planned permitted at within shard other found = ⊎_elim
    (λ same.
    let one : other ≡ plan = (let e : Some other ≡ Some plan = sym found ∙ ap (plan_at setting.maps setting.options) (same ∙ at) ∙ planned in cc)
    in let now : IsSoundShard plan (entry_for plan system who call ∷ history_of system plan.number) =
    entry_sound plan system who call permitted
    (subst (λ n. IsSoundShard plan (history_of system n)) (sym at) (sound.each_shard number plan planned))
    in rw (one, same, history_there system plan.number (entry_for plan system who call) (omega (arith, at, within))) now)
    (λ elsewhere. rw (history_elsewhere system plan.number shard (entry_for plan system who call) elsewhere) (sound.each_shard shard other found))
    (cases_eq shard plan.number)

-- ---- an entry of the controller or the reclaimer

pub foreign_entry : (setting : Setting) (states : List (Option State)) (system : SystemState) (number : ℕ) (plan : ShardPlan) (who : Caller) (call : Call) → IsSetting setting states →
    IsSoundSystem setting states system → plan_at setting.maps setting.options number ≡ Some plan → IsPermitted plan (history_of system plan.number) who call → ((worker : ℕ) → is_worker worker who ≡ false) →
    IsSoundSystem setting states (with_entry system plan.number (entry_for plan system who call))
foreign_entry setting states system number plan who call good sound planned permitted nobody =
    let entry : Entry = entry_for plan system who call
    in let at : plan.number ≡ number = (plan_facts setting.maps setting.options number plan planned).number
    in let total : length system.histories ≡ length setting.maps * setting.options.shards = sound.shards
    in let inside_all : number < length setting.maps * setting.options.shards = plan_within setting.maps setting.options number plan (some_shards setting.maps setting.options good.options) planned
    in let within : number < length system.histories = omega arith
    in let within_at : plan.number < length system.histories = omega arith
    in record {
      eight = sound.eight;
      shards = length-set system.histories plan.number (entry_for plan system who call ∷ history_of system plan.number) ∙ sound.shards;
      inside = λ worker shard. inside_kept system plan.number shard worker (entry_for plan system who call) within_at (nobody worker) ∙ sound.inside worker shard;
      entered = sound.entered;
      numbers = sound.numbers;
      workers = λ worker. run_kept setting states system (with_entry system plan.number (entry_for plan system who call)) worker (worker_state system worker)
          (λ shard cell. holds_kept system plan.number shard worker cell (entry_for plan system who call) within_at (nobody worker)) (sound.workers worker);
      each_shard = each_kept setting states system number plan who call good sound planned permitted at within;
    }

-- ---- a worker's state

-- a worker that goes on by itself
pub local_change : (setting : Setting) (states : List (Option State)) (system : SystemState) (worker : ℕ) (now : WorkerState) → IsSetting setting states →
    IsSoundSystem setting states system → worker < setting.options.workers → entered_of now ≡ entered_of (worker_state system worker) →
    IsSoundWorker setting states system worker now → IsSoundSystem setting states (with_worker system worker now)
local_change setting states system worker now good sound few same run =
    let eight : length system.workers ≡ 8 = sound.eight
    in let most : setting.options.workers ≤ 8 = good.options.at_most_eight
    in let within : worker < length system.workers = omega arith
    in record {
      eight = length-set system.workers worker now ∙ sound.eight;
      shards = sound.shards;
      inside = λ other shard. ⊎_elim
          (λ is. subst (λ w. is_inside w (history_of system shard) ≡ is_entered shard (entered_of (worker_state (with_worker system worker now) w))) (sym is)
          (sound.inside worker shard ∙ ap (is_entered shard) (sym same) ∙ ap (λ st. is_entered shard (entered_of st)) (sym (state_there system worker now within))))
          (λ apart. sound.inside other shard ∙ ap (λ st. is_entered shard (entered_of st)) (sym (state_elsewhere system worker other now apart)))
          (cases_eq other worker);
      entered = λ other shard is_in. ⊎_elim
          (λ is. sound.entered worker shard (ap (is_entered shard) (sym same) ∙ ap (λ st. is_entered shard (entered_of st)) (sym (state_there system worker now within))
          ∙ ap (λ w. is_entered shard (entered_of (worker_state (with_worker system worker now) w))) (sym is) ∙ is_in))
          (λ apart. sound.entered other shard (ap (λ st. is_entered shard (entered_of st)) (sym (state_elsewhere system worker other now apart)) ∙ is_in))
          (cases_eq other worker);
      numbers = λ other h. state_elsewhere system worker other now (λ is. omega (arith, is, h)) ∙ sound.numbers other h;
      workers = λ other. ⊎_elim
          (λ is. subst (λ w. IsSoundWorker setting states (with_worker system worker now) w (worker_state (with_worker system worker now) w)) (sym is)
          (subst (IsSoundWorker setting states (with_worker system worker now) worker) (sym (state_there system worker now within))
          (run_kept setting states system (with_worker system worker now) worker now (λ shard cell. refl) run)))
          (λ apart. subst (IsSoundWorker setting states (with_worker system worker now) other) (sym (state_elsewhere system worker other now apart))
          (run_kept setting states system (with_worker system worker now) other (worker_state system other) (λ shard cell. refl) (sound.workers other)))
          (cases_eq other worker);
      each_shard = sound.each_shard;
    }

-- a worker's entry: what it has entered, and what its run knows, are given anew
pub own_entry : (setting : Setting) (states : List (Option State)) (system : SystemState) (number : ℕ) (plan : ShardPlan) (worker : ℕ) (call : Call) (now : WorkerState) → IsSetting setting states →
    IsSoundSystem setting states system → plan_at setting.maps setting.options number ≡ Some plan → IsPermitted plan (history_of system plan.number) (Worker worker) call → worker < setting.options.workers →
    ((shard : ℕ) → is_inside worker (history_of (with_entry system plan.number (entry_for plan system (Worker worker) call)) shard) ≡ is_entered shard (entered_of now)) →
    ((shard : ℕ) → is_entered shard (entered_of now) ≡ true → shard < length setting.maps * setting.options.shards) →
    IsSoundWorker setting states (with_entry system plan.number (entry_for plan system (Worker worker) call)) worker now →
    IsSoundSystem setting states (with_worker (with_entry system plan.number (entry_for plan system (Worker worker) call)) worker now)
own_entry setting states system number plan worker call now good sound planned permitted few inside entered run =
    let at : plan.number ≡ number = (plan_facts setting.maps setting.options number plan planned).number
    in let total : length system.histories ≡ length setting.maps * setting.options.shards = sound.shards
    in let inside_all : number < length setting.maps * setting.options.shards = plan_within setting.maps setting.options number plan (some_shards setting.maps setting.options good.options) planned
    in let within : number < length system.histories = omega arith
    in let within_at : plan.number < length system.histories = omega arith
    in let eight : length system.workers ≡ 8 = sound.eight
    in let most : setting.options.workers ≤ 8 = good.options.at_most_eight
    in let small : worker < length system.workers = omega arith
    in record {
      eight = length-set system.workers worker now ∙ sound.eight;
      shards = length-set system.histories plan.number (entry_for plan system (Worker worker) call ∷ history_of system plan.number) ∙ sound.shards;
      inside = λ other shard. ⊎_elim
          (λ is. subst (λ w. is_inside w (history_of (with_entry system plan.number (entry_for plan system (Worker worker) call)) shard) ≡ is_entered shard (entered_of (worker_state (with_worker system worker now) w))) (sym is)
          (inside shard ∙ ap (λ st. is_entered shard (entered_of st)) (sym (state_there system worker now small))))
          (λ apart. inside_kept system plan.number shard other (entry_for plan system (Worker worker) call) within_at (is_another other worker (entry_for plan system (Worker worker) call) refl (λ is. apart (sym is)))
          ∙ sound.inside other shard ∙ ap (λ st. is_entered shard (entered_of st)) (sym (state_elsewhere system worker other now apart)))
          (cases_eq other worker);
      entered = λ other shard is_in. ⊎_elim
          (λ is. entered shard (ap (λ st. is_entered shard (entered_of st)) (sym (state_there system worker now small))
          ∙ ap (λ w. is_entered shard (entered_of (worker_state (with_worker system worker now) w))) (sym is) ∙ is_in))
          (λ apart. sound.entered other shard (ap (λ st. is_entered shard (entered_of st)) (sym (state_elsewhere system worker other now apart)) ∙ is_in))
          (cases_eq other worker);
      numbers = λ other h. state_elsewhere system worker other now (λ is. omega (arith, is, h)) ∙ sound.numbers other h;
      workers = λ other. ⊎_elim
          (λ is. subst (λ w. IsSoundWorker setting states (with_worker (with_entry system plan.number (entry_for plan system (Worker worker) call)) worker now) w (worker_state (with_worker system worker now) w)) (sym is)
          (subst (IsSoundWorker setting states (with_worker (with_entry system plan.number (entry_for plan system (Worker worker) call)) worker now) worker) (sym (state_there system worker now small))
          (run_kept setting states (with_entry system plan.number (entry_for plan system (Worker worker) call)) (with_worker (with_entry system plan.number (entry_for plan system (Worker worker) call)) worker now) worker now (λ shard cell. refl) run)))
          (λ apart. subst (IsSoundWorker setting states (with_worker (with_entry system plan.number (entry_for plan system (Worker worker) call)) worker now) other) (sym (state_elsewhere system worker other now apart))
          (run_kept setting states system (with_worker (with_entry system plan.number (entry_for plan system (Worker worker) call)) worker now) other (worker_state system other)
          (λ shard cell. holds_kept system plan.number shard other cell (entry_for plan system (Worker worker) call) within_at
          (is_another other worker (entry_for plan system (Worker worker) call) refl (λ is. apart (sym is)))) (sound.workers other)))
          (cases_eq other worker);
      each_shard = each_kept setting states system number plan (Worker worker) call good sound planned permitted at within;
    }
