-- What is to be shown of a block of instructions, computed by running it from a state: a plain statement about the tests that it makes,
-- the calls that it asks and the states in which it leaves.
use Rattle.std.specs.Prelude.{◌≡◌, ℕ, ◌+◌, ◌<◌, ◌^◌, ◌==◌, Bool, true, false, ℤ, FitsSigned, List, [], ◌∷◌, ◌++◌, Ok, Err, suc}
use Rattle.std.specs.Int.{w32}
use Rattle.ebpf_decode.specs.declared.insn.Insn.{Insn}
use Rattle.ebpf_decode.specs.declared.insn.Insn.TheVariants.{JumpIf}
use Rattle.ebpf_decode.specs.InstructionEncoding.{slot_count}
use Rattle.wire.specs.FrameView.{FrameView}
use Rattle.semantics.specs.declared.call.Call.{Call}
use Rattle.semantics.specs.declared.call.Call.TheVariants.{Lookup, Load, Atomic, Update}
use Rattle.semantics.specs.declared.call.Reply.{Reply}
use Rattle.semantics.specs.declared.call.Reply.TheVariants.{Cell, Null, Word, Answer}
use Rattle.semantics.specs.declared.verdict.Verdict.{Verdict}
use Rattle.semantics.specs.MachineState.{MachineState, register_value}
use Rattle.semantics.specs.Program.{Program}
use Rattle.semantics.specs.Step.{Outcome, Step, Continues, CallsMap, Exits, Traps}
use Rattle.semantics.specs.Arithmetic.{source_value}
use Rattle.semantics.specs.Comparison.{jump_outcome}
use Rattle.semantics.specs.Memory.{cell_ref}
use Rattle.semantics.specs.Semantics.{instruction_step, jump_step, at_next_slot}
use Rattle.semantics.specs.RunTrace.{IsReplyTo}
use Rattle.block_runs.specs.Plan.{Plan, Asks, Ends, Does}

-- a statement about a state and what is still to be done
abbrev pub Promise : Type 1
Promise = MachineState → Plan → Type 0

-- ---- one instruction

abbrev pub by_test : Bool → Type 0 → Type 0 → Type 0
by_test true taken other = taken
by_test false taken other = other

-- this call is the plan's
abbrev pub AsksThis : Call → Plan → ((Reply → Plan) → Type 0) → Type 0
AsksThis call (Asks planned onward) rest = (call ≡ planned) × rest onward
AsksThis call (Ends verdict frame) rest = ⊥

abbrev pub EndsThis : Verdict → FrameView → Plan → Type 0
EndsThis verdict frame (Asks call onward) = ⊥
EndsThis verdict frame (Ends planned left) = (verdict ≡ planned) × (frame ≡ left)

-- for each reply that has the call's form
abbrev pub ForReplies : Program → Call → (Reply → Type 0) → Type 0
ForReplies program (Lookup shard key) holds = ((id : ℕ) → holds (Cell (cell_ref shard id))) × holds Null
ForReplies program (Load cell offset size) holds = (word : ℕ) → word < 256 ^ size → holds (Word word)
ForReplies program (Atomic cell offset size op value expected) holds = (word : ℕ) → word < 256 ^ size → holds (Word word)
ForReplies program (Update shard key value flags) holds = (code : ℤ) → FitsSigned w32 code → holds (Answer code)
ForReplies program call holds = (reply : Reply) → IsReplyTo program call reply → holds reply

-- goes on at the next slot, or has left
abbrev pub comes : Promise → Promise → ℕ → Promise
comes leaves rest slot state plan = by_test (state.slot == slot) (rest state plan) (leaves state plan)

abbrev pub MeetsStep : Program → Promise → Promise → ℕ → Step → Plan → Type 0
MeetsStep program leaves rest slot (Continues next) plan = comes leaves rest slot next plan
MeetsStep program leaves rest slot (CallsMap call next) plan =
    AsksThis call plan (λ onward. ForReplies program call (λ reply. comes leaves rest slot (next reply) (onward reply)))
MeetsStep program leaves rest slot (Exits verdict last) plan = EndsThis verdict last.frame plan
MeetsStep program leaves rest slot (Traps cause) plan = ⊥

abbrev pub MeetsJump : Promise → Step → Plan → Type 0
MeetsJump leaves (Continues next) plan = leaves next plan
MeetsJump leaves step plan = ⊥

unfoldable pub MeetsTest : Promise → Promise → Insn → MachineState → ℤ → Outcome Bool → Plan → Type 0
MeetsTest leaves rest insn state distance (Ok taken) plan =
    by_test taken (MeetsJump leaves (jump_step state distance) plan) (rest (at_next_slot insn state) plan)
MeetsTest leaves rest insn state distance (Err cause) plan = ⊥

-- ---- blocks

-- the instructions, run from a state, do the front of the plan, and where they leave, the rest is promised
abbrev pub Meets : Promise → Program → List Insn → Promise
Meets leaves program [] state plan = leaves state plan
Meets leaves program (JumpIf width test dst source distance ∷ rest) state plan =
    MeetsTest leaves (Meets leaves program rest) (JumpIf width test dst source distance) state distance
    (jump_outcome state width test (register_value state dst) (source_value state source)) plan
Meets leaves program (insn ∷ rest) state plan =
    MeetsStep program leaves (Meets leaves program rest) (state.slot + slot_count insn) (instruction_step program insn state) plan

-- ---- lists of blocks, each with a name

-- the slot after these instructions
abbrev pub slot_after : ℕ → List Insn → ℕ
slot_after slot [] = slot
slot_after slot (insn ∷ rest) = slot_after (slot + slot_count insn) rest

abbrev pub Named : Type 0 → Type 0
Named Part = Part × List Insn

-- the state is at the start of one of these blocks, and as is promised there; the first of them starts at this slot
abbrev pub Arrives : {Part : Type 0} → (Part → Promise) → ℕ → List (Named Part) → Promise
Arrives promise start [] state plan = ⊥
Arrives promise start (block ∷ blocks) state plan =
    by_test (state.slot == start) (promise block.0 state plan) (Arrives promise (slot_after start block.1) blocks state plan)

-- each block, from any state that is promised at its start, does the front of its plan and leaves as is promised at the start of a later
-- one
abbrev pub BlocksMeet : {Part : Type 0} → (Part → Promise) → Program → ℕ → List (Named Part) → Type 0
BlocksMeet promise program start [] = Unit {0}
BlocksMeet promise program start (block ∷ blocks) =
    ((state : MachineState) (plan : Plan) → promise block.0 state plan →
    (state.slot ≡ start) × Meets (Arrives promise (slot_after start block.1) blocks) program block.1 state plan)
    × BlocksMeet promise program (slot_after start block.1) blocks

-- ---- the law

-- the instructions of the blocks, one after the other
abbrev pub code_of : {Part : Type 0} → List (Named Part) → List Insn
code_of [] = []
code_of (block ∷ blocks) = block.1 ++ code_of blocks

-- how many instructions there are
abbrev pub longest : List Insn → ℕ → ℕ
longest [] more = more
longest (insn ∷ rest) more = suc (longest rest more)

abbrev pub longest_of : {Part : Type 0} → List (Named Part) → ℕ
longest_of [] = 0
longest_of (block ∷ blocks) = longest block.1 (longest_of blocks)

-- where the blocks of a program do their parts, a run that is as promised at the start of one of them does all that is still to be done
abbrev pub BlocksJoin : Type 1
BlocksJoin =
    (Part : Type 0) (promise : Part → Promise) (program : Program) (blocks : List (Named Part)) →
    program.code ≡ code_of blocks → BlocksMeet promise program 0 blocks →
    (state : MachineState) (plan : Plan) → Arrives promise 0 blocks state plan → Does (longest_of blocks) program state plan
