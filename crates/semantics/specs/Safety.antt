-- An image is safe: whatever frames arrive and however the shared steps of workers, controller and reclaimer interleave, no
-- run's next instruction traps, and no run takes more instructions than the image has slots.
use Rattle.std.specs.Prelude.{ℕ, ◌<◌, List, ◌∷◌, Option, Some, None, IsTrue, MatchBool}
use Rattle.ebpf_decode.specs.declared.insn.Insn.{Insn}
use Rattle.ebpf_decode.specs.declared.map.MapDef.{MapDef}
use Rattle.semantics.specs.declared.options.Options.{Options}
use Rattle.semantics.specs.declared.call.Caller.TheVariants.{Worker}
use Rattle.semantics.specs.declared.call.Call.{Call}
use Rattle.semantics.specs.declared.call.Call.TheVariants.{Enter, Load, Store, Atomic}
use Rattle.semantics.specs.declared.call.Reply.TheVariants.{Entered}
use Rattle.semantics.specs.MachineState.{MachineState}
use Rattle.ebpf_decode.specs.InstructionEncoding.{total_slots}
use Rattle.semantics.specs.Step.{Step, CallsMap, Traps}
use Rattle.semantics.specs.Semantics.{next_step}
use Rattle.semantics.specs.ShardPlan.{ShardPlan, plan_at, AreOptions}
use Rattle.semantics.specs.SequentialShard.{is_kept, shard_after}
use Rattle.semantics.specs.History.{shard_of_call, Meets}
use Rattle.semantics.specs.System.{Setting, program_of_setting, SystemState, WorkerState, Runs, worker_state, history_of, is_entered}
use Rattle.semantics.specs.System.{SystemEvent, CanAllHappen, system_after}
use Rattle.semantics.specs.Entries.{History}

-- a call on a cell that is not freed
abbrev pub IsOnKeptCell : ShardPlan → History → Call → Type 0
IsOnKeptCell plan history (Load cell offset size) = IsTrue (is_kept plan (shard_after plan history) cell.id)
IsOnKeptCell plan history (Store cell offset size value) = IsTrue (is_kept plan (shard_after plan history) cell.id)
IsOnKeptCell plan history (Atomic cell offset size op value expected) = IsTrue (is_kept plan (shard_after plan history) cell.id)
IsOnKeptCell plan history call = Unit {0}

-- the caller may make the call, on a cell that is not freed
abbrev pub IsServedAt : ShardPlan → History → ℕ → Call → Type 0
IsServedAt plan history worker call = Meets plan history (Worker worker) call × IsOnKeptCell plan history call

-- the history after the worker's Enter
abbrev pub after_enter : ShardPlan → History → ℕ → History
after_enter plan history worker = (record { who = Worker worker; call = Enter plan.number; reply = Entered }) ∷ history

-- the shard exists, and the worker may make the call; where it has not entered the shard yet, it may enter, and then make the call
abbrev pub IsServedCall : Option ShardPlan → SystemState → ℕ → List ℕ → Call → Type 0
IsServedCall (Some plan) system worker entered call =
    MatchBool (is_entered plan.number entered)
    (IsServedAt plan (history_of system plan.number) worker call)
    (Meets plan (history_of system plan.number) (Worker worker) (Enter plan.number)
    × IsServedAt plan (after_enter plan (history_of system plan.number) worker) worker call)
IsServedCall None system worker entered call = ⊥

-- an instruction does not trap; a call on a cell that is not held or was freed is a trap too
abbrev pub DoesNotTrap : Setting → SystemState → ℕ → List ℕ → Step → Type 0
DoesNotTrap setting system worker entered (CallsMap call next) =
    IsServedCall (plan_at setting.maps setting.options (shard_of_call call)) system worker entered call
DoesNotTrap setting system worker entered (Traps cause) = ⊥
DoesNotTrap setting system worker entered step = Unit {0}

-- a run that goes on does not trap, and has done fewer instructions than the image has slots
pub record IsSafeRun (setting : Setting) (system : SystemState) (worker : ℕ) (entered : List ℕ) (state : MachineState) : Type 0 where
  pub goes_on : DoesNotTrap setting system worker entered (next_step (program_of_setting setting) state)
  pub bounded : state.steps < total_slots setting.code

abbrev pub IsSafeWorker : Setting → SystemState → ℕ → WorkerState → Type 0
IsSafeWorker setting system worker (Runs state entered) = IsSafeRun setting system worker entered state
IsSafeWorker setting system worker other = Unit {0}

-- for all options with which its shards can be opened, and after any list of events
abbrev pub IsSafeImage : List MapDef → List Insn → Type 0
IsSafeImage maps code =
    (options : Options) → AreOptions maps options → (events : List SystemEvent) →
    (let setting : Setting = record { maps = maps; code = code; options = options } in
    CanAllHappen setting events → (worker : ℕ) →
    IsSafeWorker setting (system_after setting events) worker (worker_state (system_after setting events) worker))
