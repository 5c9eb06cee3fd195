-- Where an instruction leads a run, by what flows out of it: it does not trap, and what is known there is sound.
use Rattle.std.specs.List.{AllByRecursion}
use Rattle.std.specs.Prelude.{◌≡◌, ◌⊎◌, ℕ, ◌+◌, ◌<◌, ◌^◌, ℤ, pos, ◌+ℤ◌, List, length, IsTrue, Ok}
use Rattle.ebpf_decode.specs.declared.insn.Insn.{Insn}
use Rattle.ebpf_decode.specs.declared.map.MapDef.{MapDef}
use Rattle.ebpf_decode.specs.declared.version.Version.{Version}
use Rattle.ebpf_decode.specs.InstructionEncoding.{slot_count, FieldsFit}
use Rattle.ebpf_decode.specs.Jumps.{distance_of_jump}
use Rattle.semantics.specs.declared.call.Reply.{Reply}
use Rattle.semantics.specs.MachineState.{MachineState, initial_state}
use Rattle.semantics.specs.Program.{Program}
use Rattle.semantics.specs.Step.{Step, Continues, CallsMap, Exits}
pub use Rattle.semantics.specs.ServedCalls.{IsKeyOf, IsPairOf, IsServedLookup, IsServedLoad, IsServedStore, IsServedAtomic, IsServedUpdate}
pub use Rattle.semantics.specs.ServedCalls.{IsServed, IsHandedOut, HoldsAfter}
use Rattle.semantics.specs.PlanLimits.{HasImageSizes}
use Rattle.semantics.specs.System.{IsInputFrame, input_frame}
use Rattle.semantics.specs.RunTrace.{IsReplyTo}
use Rattle.semantics.specs.Semantics.{instruction_step}
use Rattle.abstract_state.specs.declared.flow.Flow.{Flow}
use Rattle.abstract_state.specs.declared.flow.Flow.TheVariants.{Ends, Falls, Jumps, Splits}
use Rattle.abstract_state.specs.declared.state.State.{State}
use Rattle.abstract_state.specs.States.{opening_state, word_of}
use Rattle.abstract_state.specs.Join.{bytes_of_word, join_of}
use Rattle.abstract_state.specs.Flow.{flow_of}
use Rattle.abstract_state.specs.Abstraction.{Held, Abstracts}

-- ---- where a run goes on

-- at a slot, after one more instruction, and what is known there is sound
pub record GoesOnAt (maps : List MapDef) (held : Held) (state : State) (before after : MachineState) (slot : ℕ) : Type 0 where
  pub at : after.slot ≡ slot
  pub counted : after.steps ≡ before.steps + 1
  pub sound : Abstracts maps held state after

-- where a jump goes
abbrev pub IsTarget : MachineState → ℤ → ℕ → Type 0
IsTarget machine distance slot = pos slot ≡ pos (machine.slot + 1) +ℤ distance

pub record Lands (maps : List MapDef) (held : Held) (state : State) (before after : MachineState) (distance : ℤ) : Type 0 where
  pub slot : ℕ
  pub target : IsTarget before distance slot
  pub goes_on : GoesOnAt maps held state before after slot

-- what flows on to the next instruction: after a call, for every reply to it
abbrev pub FallsOn : Program → Held → State → MachineState → ℕ → Step → Type 0
FallsOn program held state before slot (Continues after) = GoesOnAt program.maps held state before after slot
FallsOn program held state before slot (CallsMap call next) =
    IsServed program held call ×
    ((reply : Reply) → IsReplyTo program call reply → (held' : Held) → HoldsAfter program held held' call reply →
    GoesOnAt program.maps held' state before (next reply) slot)
FallsOn program held state before slot step = ⊥

abbrev pub JumpsOn : Program → Held → State → MachineState → ℤ → Step → Type 0
JumpsOn program held state before distance (Continues after) = Lands program.maps held state before after distance
JumpsOn program held state before distance step = ⊥

-- on one of the two edges
abbrev pub SplitsOn : Program → Held → State → State → MachineState → ℤ → Step → Type 0
SplitsOn program held taken fallen before distance (Continues after) =
    Lands program.maps held taken before after distance ⊎ GoesOnAt program.maps held fallen before after (before.slot + 1)
SplitsOn program held taken fallen before distance step = ⊥

abbrev pub EndsRun : MachineState → Step → Type 0
EndsRun before (Exits verdict last) = last.steps ≡ before.steps + 1
EndsRun before step = ⊥

-- the instruction's jump goes forward
abbrev pub JumpsForward : Insn → Type 0
JumpsForward insn = (n : ℕ) × (distance_of_jump insn ≡ pos n)

abbrev pub Follows : Program → Held → Flow → MachineState → Insn → Step → Type 0
Follows program held Ends before insn step = EndsRun before step
Follows program held (Falls state) before insn step = FallsOn program held state before (before.slot + slot_count insn) step
Follows program held (Jumps state) before insn step = JumpsOn program held state before (distance_of_jump insn) step
Follows program held (Splits taken fallen) before insn step =
    SplitsOn program held taken fallen before (distance_of_jump insn) step

-- ---- the laws

-- a state describes eleven registers, and 64 words of eight bytes
pub record IsShaped (state : State) : Type 0 where
  pub eleven : length state.registers ≡ 11
  pub words : length state.stack ≡ 64
  pub eight : (word : ℕ) → word < 64 → length (bytes_of_word (word_of state word)) ≡ 8

-- an instruction whose fields hold its numbers, over maps of sizes that an image can have, and that breaks no rule, does not trap in any
-- state that is known soundly, and where it leads, what flows there is sound
abbrev pub FlowIsSound : Type 0
FlowIsSound =
    (program : Program) (held : Held) (state : State) (machine : MachineState) (insn : Insn) (flow : Flow) →
    IsShaped state → Abstracts program.maps held state machine → AllByRecursion HasImageSizes program.maps → FieldsFit insn →
    JumpsForward insn →
    flow_of program.maps state machine.slot insn ≡ Ok flow →
    Follows program held flow machine insn (instruction_step program insn machine)

-- what both paths know is sound for a run that came by either
abbrev pub JoinIsSound : Type 0
JoinIsSound =
    (maps : List MapDef) (held : Held) (a b : State) (machine : MachineState) → length a.registers ≡ 11 → length b.registers ≡ 11 →
    length a.stack ≡ 64 → length b.stack ≡ 64 →
    (Abstracts maps held a machine ⊎ Abstracts maps held b machine) → Abstracts maps held (join_of a b) machine

-- more cells may be held
abbrev pub HoldingMoreIsSound : Type 0
HoldingMoreIsSound =
    (maps : List MapDef) (held held' : Held) (state : State) (machine : MachineState) →
    ((map shard cell : ℕ) → IsTrue (held map shard cell) → IsTrue (held' map shard cell)) →
    Abstracts maps held state machine → Abstracts maps held' state machine

-- a run begins in a state that the opening state is sound for
abbrev pub OpeningIsSound : Type 0
OpeningIsSound =
    (version : Version) (maps : List MapDef) (held : Held) (bytes : List ℕ) (worker now : ℕ) →
    IsInputFrame bytes → worker < 8 → now < 2 ^ 64 →
    Abstracts maps held (opening_state version) (initial_state (input_frame bytes) worker now)

-- the state in which a run begins has its shape, and so has each that flows out of an instruction or is known where paths meet
abbrev pub FlowIsShaped : Flow → Type 0
FlowIsShaped Ends = Unit {0}
FlowIsShaped (Falls state) = IsShaped state
FlowIsShaped (Jumps state) = IsShaped state
FlowIsShaped (Splits taken fallen) = IsShaped taken × IsShaped fallen

pub record StatesAreShaped : Type 0 where
  pub opening : (version : Version) → IsShaped (opening_state version)
  pub joined : (a b : State) → IsShaped a → IsShaped b → IsShaped (join_of a b)
  pub flowed : (maps : List MapDef) (state : State) (slot : ℕ) (insn : Insn) (flow : Flow) → IsShaped state →
      flow_of maps state slot insn ≡ Ok flow → FlowIsShaped flow
