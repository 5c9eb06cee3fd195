-- What is known at the slots of a program covers the runs that are reached: each is at a slot whose entry state is sound for it.
use Rattle.std.specs.Prelude.{◌≡◌, ℕ, ◌/◌, ◌==◌, ◌&&◌, List, Option, Some}
use Rattle.ebpf_decode.specs.declared.insn.Insn.{Insn}
use Rattle.ebpf_decode.specs.declared.map.MapDef.{MapDef}
use Rattle.semantics.specs.declared.options.Options.{Options}
use Rattle.semantics.specs.MachineState.{MachineState}
use Rattle.semantics.specs.Reclamation.{holds}
use Rattle.semantics.specs.ShardPlan.{AreOptions}
use Rattle.semantics.specs.System.{Setting, SystemState, Runs, worker_state, history_of, is_entered, SystemEvent, CanAllHappen}
use Rattle.semantics.specs.System.{system_after}
use Rattle.abstract_state.specs.declared.state.State.{State}
use Rattle.abstract_state.specs.Abstraction.{Held, Abstracts}
use Rattle.verifier.specs.Dataflow.{known_at}

-- the cells that a worker holds: of the shards that its run has entered, by its own entries
abbrev pub held_in_run : Setting → SystemState → ℕ → List ℕ → Held
held_in_run setting system worker entered map shard cell =
    (shard / setting.options.shards == map) && (is_entered shard entered && holds worker cell (history_of system shard))

-- the run's slot has an entry state, which is sound for the run, for the cells that its worker holds
pub record IsCovered (maps : List MapDef) (states : List (Option State)) (held : Held) (machine : MachineState) : Type 0 where
  pub known : State
  pub at : known_at states machine.slot ≡ Some known
  pub sound : Abstracts maps held known machine

-- for all options with which the maps' shards can be opened and after any list of events, every run is covered
abbrev pub CoverRuns : List MapDef → List Insn → List (Option State) → Type 0
CoverRuns maps code states =
    (options : Options) → AreOptions maps options → (events : List SystemEvent) →
    (let setting : Setting = record { maps = maps; code = code; options = options } in
    CanAllHappen setting events → (worker : ℕ) (machine : MachineState) (entered : List ℕ) →
    worker_state (system_after setting events) worker ≡ Runs machine entered →
    IsCovered maps states (held_in_run setting (system_after setting events) worker entered) machine)
