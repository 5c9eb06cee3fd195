-- What holds of the system after every list of events, where the program was accepted: each run's state is one that what is known at
-- its slot is sound for, and a worker is inside exactly the shards that its run has entered.
use Rattle.std.proofs.Common.{◌≡◌, ℕ, ◌*◌, ◌<◌, ◌≤◌, true, List, [], length, Option, Some}
use Rattle.std.specs.Prelude.{All}
use Rattle.ebpf_decode.specs.declared.version.Version.{Version}
use Rattle.ebpf_decode.specs.InstructionEncoding.{total_slots}
use Rattle.semantics.specs.declared.call.Entry.{Entry}
use Rattle.semantics.specs.MachineState.{MachineState}
use Rattle.semantics.specs.History.{IsLegalHistory}
use Rattle.semantics.specs.Reclamation.{is_inside}
use Rattle.semantics.specs.declared.plan.ShardPlan.{ShardPlan}
use Rattle.semantics.specs.ShardPlan.{plan_at, AreOptions}
use Rattle.semantics.specs.SequentialShard.{shard_after}
use Rattle.semantics.specs.System.{Setting, SystemState, WorkerState, Idle, Runs, Leaves, worker_state, history_of, is_entered}
use Rattle.abstract_state.specs.declared.state.State.{State}
use Rattle.verifier.specs.Dataflow.{Accepts}
pub use Rattle.verifier.specs.Coverage.{held_in_run}
use Rattle.verifier.proofs.shared.PlaceLemmas.{PartsFit, IsSoundPlace}

-- the shards that a worker's run has entered
abbrev pub entered_of : WorkerState → List ℕ
entered_of Idle = []
entered_of (Runs state entered) = entered
entered_of (Leaves entered) = entered

-- the run is at a place at which what is known is sound, for the cells that its worker holds
abbrev pub IsSoundRun : Setting → List (Option State) → SystemState → ℕ → MachineState → List ℕ → Type 0
IsSoundRun setting states system worker state entered = IsSoundPlace setting.maps setting.code states (held_in_run setting system worker entered) state

abbrev pub IsSoundWorker : Setting → List (Option State) → SystemState → ℕ → WorkerState → Type 0
IsSoundWorker setting states system worker Idle = Unit {0}
IsSoundWorker setting states system worker (Runs state entered) = IsSoundRun setting states system worker state entered
IsSoundWorker setting states system worker (Leaves entered) = Unit {0}

-- a shard of any kind: its history is legal, and its cells are of bytes
pub record IsSoundShard (plan : ShardPlan) (history : List Entry) : Type 0 where
  pub legal : IsLegalHistory plan history
  pub bytes : All (All (λ byte. byte < 256)) (shard_after plan history).cells

-- what a setting is: an accepted program over maps, and options that fit them
pub record IsSetting (setting : Setting) (states : List (Option State)) : Type 0 where
  pub options : AreOptions setting.maps setting.options
  pub version : Version
  pub accepted : Accepts version setting.maps setting.code states
  pub some_code : 0 < total_slots setting.code
  pub fits : PartsFit setting.maps setting.code

pub record IsSoundSystem (setting : Setting) (states : List (Option State)) (system : SystemState) : Type 0 where
  pub eight : length system.workers ≡ 8
  pub shards : length system.histories ≡ length setting.maps * setting.options.shards
  pub inside : (worker shard : ℕ) → is_inside worker (history_of system shard) ≡ is_entered shard (entered_of (worker_state system worker))
  pub entered : (worker shard : ℕ) → is_entered shard (entered_of (worker_state system worker)) ≡ true → shard < length setting.maps * setting.options.shards
  pub numbers : (worker : ℕ) → setting.options.workers ≤ worker → worker_state system worker ≡ Idle
  pub workers : (worker : ℕ) → IsSoundWorker setting states system worker (worker_state system worker)
  pub each_shard : (number : ℕ) (plan : ShardPlan) → plan_at setting.maps setting.options number ≡ Some plan → IsSoundShard plan (history_of system number)
