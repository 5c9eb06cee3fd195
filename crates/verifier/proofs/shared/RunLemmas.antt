-- A sound run's next instruction is one that its entry state lets through, so it does not trap.
use Rattle.std.proofs.Common.{◌≡◌, ℕ, ◌<◌, true, List, Option, Some, IsTrue, refl, ◌∙◌, ap, subst, ⊎_elim, arith}
use Rattle.std.proofs.lemmas.Bool.{cases_lt}
use Rattle.ebpf_decode.specs.declared.insn.Insn.{Insn}
use Rattle.semantics.specs.declared.plan.ShardPlan.{ShardPlan}
use Rattle.semantics.specs.declared.call.CellRef.{CellRef}
use Rattle.semantics.specs.declared.call.Call.{Call}
use Rattle.semantics.specs.declared.call.Call.TheVariants.{Enter, Leave, Lookup, Load, Store, Atomic, Update, Delete, Reclaim}
use Rattle.semantics.specs.MachineState.{MachineState}
use Rattle.semantics.specs.Step.{Step, Continues, CallsMap, Exits, Traps}
use Rattle.semantics.specs.Semantics.{next_step}
use Rattle.semantics.specs.Reclamation.{is_inside}
use Rattle.semantics.specs.ShardPlan.{plan_at}
use Rattle.semantics.specs.History.{shard_of_call}
use Rattle.semantics.specs.System.{Setting, program_of_setting, SystemState, WorkerState, Idle, Runs, Leaves, worker_state, history_of, is_entered}
use Rattle.semantics.specs.Safety.{IsServedCall, DoesNotTrap, IsSafeRun, IsSafeWorker}
use Rattle.abstract_state.specs.declared.flow.Flow.{Flow}
use Rattle.abstract_state.specs.declared.flow.Flow.TheVariants.{Ends, Falls, Jumps, Splits}
use Rattle.abstract_state.specs.declared.state.State.{State}
use Rattle.abstract_state.specs.Soundness.{IsServed, Follows}
use Rattle.semantics.proofs.shared.PlanLemmas.{some_shards}
use Rattle.verifier.proofs.SystemInvariant.{entered_of, held_in_run, IsSoundRun, IsSoundWorker, IsSoundShard, IsSetting, IsSoundSystem}
use Rattle.verifier.proofs.PlanLemmas.{plan_exists}
pub use Rattle.verifier.proofs.InstructionLemmas.{begins_within}
use Rattle.verifier.proofs.shared.PlaceLemmas.{Here, here_of}
use Rattle.verifier.proofs.SettingLemmas.{held_facts, lookup_served, load_served, store_served, atomic_served, update_served, delete_served}

-- ---- its calls are served

-- a worker that runs is one of those that the options give
pub is_worker : (setting : Setting) (states : List (Option State)) (system : SystemState) (worker : ℕ) (state : MachineState) (entered : List ℕ) → IsSoundSystem setting states system →
    worker_state system worker ≡ Runs state entered → worker < setting.options.workers
is_worker setting states system worker state entered sound runs =
    ⊎_elim (λ few. few) (λ more. absurd (let idle : worker_state system worker ≡ Idle = sound.numbers worker more in cc)) (cases_lt worker setting.options.workers)

-- the shard of a held cell
record CellShard (setting : Setting) (system : SystemState) (worker : ℕ) (entered : List ℕ) (cell : CellRef) : Type 0 where
  plan : ShardPlan
  planned : plan_at setting.maps setting.options cell.shard ≡ Some plan
  sound : IsSoundShard plan (history_of system cell.shard)
  inside : is_inside worker (history_of system cell.shard) ≡ is_entered cell.shard entered

cell_shard : (setting : Setting) (states : List (Option State)) (system : SystemState) (worker : ℕ) (state : MachineState) (entered : List ℕ) (map : ℕ) (cell : CellRef) → IsSetting setting states →
    IsSoundSystem setting states system → worker_state system worker ≡ Runs state entered → IsTrue (held_in_run setting system worker entered map cell.shard cell.id) →
    CellShard setting system worker entered cell
cell_shard setting states system worker state entered map cell good sound runs is_held =
    let was : is_entered cell.shard entered ≡ true = (held_facts setting system worker entered map cell.shard cell.id is_held).was_entered
    in let below = sound.entered worker cell.shard (ap (λ one. is_entered cell.shard (entered_of one)) runs ∙ was)
    in let planned = plan_exists setting.maps setting.options cell.shard below (some_shards setting.maps setting.options good.options)
    in record {
      plan = planned.0;
      planned = planned.1;
      sound = sound.each_shard cell.shard planned.0 planned.1;
      inside = sound.inside worker cell.shard ∙ ap (λ one. is_entered cell.shard (entered_of one)) runs;
    }

pub call_served : (setting : Setting) (states : List (Option State)) (system : SystemState) (worker : ℕ) (state : MachineState) (entered : List ℕ) → IsSetting setting states →
    IsSoundSystem setting states system → worker_state system worker ≡ Runs state entered → (call : Call) → IsServed (program_of_setting setting) (held_in_run setting system worker entered) call →
    IsServedCall (plan_at setting.maps setting.options (shard_of_call call)) system worker entered call
call_served setting states system worker state entered good sound runs (Lookup shard key) served =
    lookup_served setting states system worker entered shard key good (is_worker setting states system worker state entered sound runs)
    (sound.inside worker shard ∙ ap (λ one. is_entered shard (entered_of one)) runs) served
call_served setting states system worker state entered good sound runs (Load cell offset size) served =
    let at = cell_shard setting states system worker state entered served.map cell good sound runs served.holds
    in load_served setting states system worker entered cell offset size good (is_worker setting states system worker state entered sound runs) at.inside at.plan at.planned at.sound served
call_served setting states system worker state entered good sound runs (Store cell offset size value) served =
    let at = cell_shard setting states system worker state entered served.at.map cell good sound runs served.at.holds
    in store_served setting states system worker entered cell offset size value good (is_worker setting states system worker state entered sound runs) at.inside at.plan at.planned at.sound served
call_served setting states system worker state entered good sound runs (Atomic cell offset size op value expected) served =
    let at = cell_shard setting states system worker state entered served.map cell good sound runs served.holds
    in atomic_served setting states system worker entered cell offset size op value expected good (is_worker setting states system worker state entered sound runs)
    at.inside at.plan at.planned at.sound served
call_served setting states system worker state entered good sound runs (Update shard key value flags) served =
    update_served setting states system worker entered shard key value flags good (is_worker setting states system worker state entered sound runs)
    (sound.inside worker shard ∙ ap (λ one. is_entered shard (entered_of one)) runs) served
call_served setting states system worker state entered good sound runs (Delete shard key) served =
    delete_served setting states system worker entered shard key good (is_worker setting states system worker state entered sound runs)
    (sound.inside worker shard ∙ ap (λ one. is_entered shard (entered_of one)) runs) served
call_served setting states system worker state entered good sound runs (Enter shard) served = absurd served
call_served setting states system worker state entered good sound runs (Leave shard) served = absurd served
call_served setting states system worker state entered good sound runs (Reclaim shard) served = absurd served

-- ---- and it does not trap

no_trap : (setting : Setting) (system : SystemState) (worker : ℕ) (state : MachineState) (entered : List ℕ) (insn : Insn) (flow : Flow) (step : Step) →
    ((call : Call) → IsServed (program_of_setting setting) (held_in_run setting system worker entered) call →
    IsServedCall (plan_at setting.maps setting.options (shard_of_call call)) system worker entered call) →
    Follows (program_of_setting setting) (held_in_run setting system worker entered) flow state insn step → DoesNotTrap setting system worker entered step
no_trap setting system worker state entered insn flow (Continues next) served follows = tt
no_trap setting system worker state entered insn flow (Exits verdict last) served follows = tt
no_trap setting system worker state entered insn Ends (CallsMap call next) served follows = absurd follows
no_trap setting system worker state entered insn (Falls known) (CallsMap call next) served follows = served call follows.0
no_trap setting system worker state entered insn (Jumps known) (CallsMap call next) served follows = absurd follows
no_trap setting system worker state entered insn (Splits taken fallen) (CallsMap call next) served follows = absurd follows
no_trap setting system worker state entered insn Ends (Traps cause) served follows = absurd follows
no_trap setting system worker state entered insn (Falls known) (Traps cause) served follows = absurd follows
no_trap setting system worker state entered insn (Jumps known) (Traps cause) served follows = absurd follows
no_trap setting system worker state entered insn (Splits taken fallen) (Traps cause) served follows = absurd follows

-- a run that the invariant holds of does not trap, and has done fewer instructions than the program has slots
pub safe_run : (setting : Setting) (states : List (Option State)) (system : SystemState) (worker : ℕ) (state : MachineState) (entered : List ℕ) → IsSetting setting states →
    IsSoundSystem setting states system → worker_state system worker ≡ Runs state entered → IsSafeRun setting system worker entered state
safe_run setting states system worker state entered good sound runs =
    let run : IsSoundRun setting states system worker state entered = subst (IsSoundWorker setting states system worker) runs (sound.workers worker)
    in let next : Here (program_of_setting setting) (held_in_run setting system worker entered) state run.known =
    here_of good.version (program_of_setting setting) states (held_in_run setting system worker entered) state good.accepted good.fits run
    in record {
      goes_on = no_trap setting system worker state entered next.insn next.flow (next_step (program_of_setting setting) state)
          (call_served setting states system worker state entered good sound runs) next.follows;
      bounded = omega (arith, run.few, next.within);
    }

pub safe_worker : (setting : Setting) (states : List (Option State)) (system : SystemState) (worker : ℕ) → IsSetting setting states → IsSoundSystem setting states system →
    IsSafeWorker setting system worker (worker_state system worker)
safe_worker setting states system worker good sound = by_state (worker_state system worker) refl where
  by_state : (one : WorkerState) → worker_state system worker ≡ one → IsSafeWorker setting system worker one
  by_state Idle is = tt
  by_state (Runs state entered) is = safe_run setting states system worker state entered good sound is
  by_state (Leaves entered) is = tt
