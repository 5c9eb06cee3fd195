-- Entry states: what is known before an instruction is what flows along the edges that lead to it, joined.
use Rattle.std.specs.Prelude.{◌≡◌, ℕ, zero, suc, ◌+◌, ◌<◌, ◌==◌, Bool, true, false, ℤ, pos, negsuc, List, [], ◌∷◌, ◌++◌, Option, Some}
use Rattle.std.specs.Prelude.{None, Ok, Err, IsOk, IsTrue, slice_index_or, if◌then◌else◌}
use Rattle.ebpf_decode.specs.declared.insn.Insn.{Insn}
use Rattle.ebpf_decode.specs.declared.map.MapDef.{MapDef}
use Rattle.ebpf_decode.specs.declared.version.Version.{Version}
use Rattle.ebpf_decode.specs.InstructionEncoding.{slot_count, total_slots}
use Rattle.ebpf_decode.specs.Jumps.{jump_target}
use Rattle.semantics.specs.Program.{instruction_at}
use Rattle.image_shape.specs.declared.fault.ShapeFault.{ShapeFault}
use Rattle.image_shape.specs.Structure.{HasShape, IsFirstFault}
use Rattle.abstract_state.specs.declared.flow.Flow.{Flow}
use Rattle.abstract_state.specs.declared.flow.Flow.TheVariants.{Ends, Falls, Jumps, Splits}
use Rattle.abstract_state.specs.declared.broken_rule.BrokenRule.{BrokenRule}
use Rattle.abstract_state.specs.declared.state.State.{State}
use Rattle.abstract_state.specs.States.{Checked, opening_state}
use Rattle.abstract_state.specs.Join.{join_of}
use Rattle.abstract_state.specs.Flow.{flow_of}
use Rattle.verifier.specs.declared.reject.Reject.{Reject}
use Rattle.verifier.specs.declared.reject.Reject.TheVariants.{Memory}
use Rattle.verifier.specs.Rejects.{reject_of_shape, reject_of_rule}

-- ---- what flows along edges

-- what is known at a slot; of one to which no edge leads, nothing
abbrev pub known_at : List (Option State) → ℕ → Option State
known_at states slot = slice_index_or states slot None

abbrev pub join_known : Option State → State → Option State
join_known None state = Some state
join_known (Some known) state = Some (join_of known state)

-- one more edge leads here, or doesn't
abbrev pub joined_where : Bool → State → Option State → Option State
joined_where true state known = join_known known state
joined_where false state known = known

-- whether a jump goes there
abbrev pub is_at : Option ℤ → ℕ → Bool
is_at (Some (pos place)) slot = slot == place
is_at (Some (negsuc below)) slot = false
is_at None slot = false

abbrev pub is_target : ℕ → Insn → ℕ → Bool
is_target slot insn target = is_at (jump_target slot insn) target

abbrev pub is_next : ℕ → Insn → ℕ → Bool
is_next slot insn target = target == slot + slot_count insn

-- the edges of one instruction
abbrev pub arriving : ℕ → Insn → ℕ → Flow → Option State → Option State
arriving slot insn target Ends known = known
arriving slot insn target (Falls state) known = joined_where (is_next slot insn target) state known
arriving slot insn target (Jumps state) known = joined_where (is_target slot insn target) state known
arriving slot insn target (Splits taken fallen) known =
    joined_where (is_next slot insn target) fallen (joined_where (is_target slot insn target) taken known)

abbrev pub arriving_if : ℕ → Insn → ℕ → Checked Flow → Option State → Option State
arriving_if slot insn target (Ok flow) known = arriving slot insn target flow known
arriving_if slot insn target (Err why) known = known

abbrev pub arriving_from : List MapDef → ℕ → Option Insn → Option State → ℕ → Option State → Option State
arriving_from maps slot (Some insn) (Some state) target known = arriving_if slot insn target (flow_of maps state slot insn) known
arriving_from maps slot insn state target known = known

-- what the edges from the first this many slots bring to a slot; a run begins at slot 0
abbrev pub arrived : Version → List MapDef → List Insn → List (Option State) → ℕ → ℕ → Option State
arrived version maps code states target zero = if target == 0 then Some (opening_state version) else None
arrived version maps code states target (suc slot) =
    arriving_from maps slot (instruction_at code slot) (known_at states slot) target (arrived version maps code states target slot)

-- the entry states of the first this many slots, each from those before it
unfoldable pub states_to : Version → List MapDef → List Insn → ℕ → List (Option State)
states_to version maps code zero = []
states_to version maps code (suc slot) =
    states_to version maps code slot ++ arrived version maps code (states_to version maps code slot) slot slot ∷ []

-- the entry states of a program: a function of it, since edges go up
abbrev pub states_of : Version → List MapDef → List Insn → List (Option State)
states_of version maps code = states_to version maps code (total_slots code)

-- ---- what is accepted

-- at the slots before this one is what flows along the edges that lead there
abbrev pub AreEntryStates : Version → List MapDef → List Insn → List (Option State) → ℕ → Type 0
AreEntryStates version maps code states end = (slot : ℕ) → slot < end → known_at states slot ≡ arrived version maps code states slot slot

-- the instruction at the slot breaks no rule in what is known there
abbrev pub PassesChecks : List MapDef → List Insn → List (Option State) → ℕ → Type 0
PassesChecks maps code states slot =
    (insn : Insn) (state : State) → instruction_at code slot ≡ Some insn → known_at states slot ≡ Some state →
    IsOk (flow_of maps state slot insn)

-- the program has structure, and no instruction breaks a rule
pub record Accepts (version : Version) (maps : List MapDef) (code : List Insn) (states : List (Option State)) : Type 0 where
  pub shape : HasShape code
  pub entry : AreEntryStates version maps code states (total_slots code)
  pub passes : (slot : ℕ) → PassesChecks maps code states slot

-- an edge of these leads past the next instruction: what flows there has to be kept
abbrev pub jumps : Flow → Bool
jumps Ends = false
jumps (Falls state) = false
jumps (Jumps state) = true
jumps (Splits taken fallen) = true

-- a jump that breaks no rule, and no instruction before it does
pub record IsPassedJump (version : Version) (maps : List MapDef) (code : List Insn) (slot : ℕ) : Type 0 where
  pub states : List (Option State)
  pub entry : AreEntryStates version maps code states (slot + 1)
  pub passes : (before : ℕ) → before < slot + 1 → PassesChecks maps code states before
  pub insn : Insn
  pub state : State
  pub flow : Flow
  pub here : instruction_at code slot ≡ Some insn
  pub known : known_at states slot ≡ Some state
  pub flows : flow_of maps state slot insn ≡ Ok flow
  pub is_jump : IsTrue (jumps flow)

-- memory may have been asked for: for what flows along a jump, or, once the whole program broke no rule, for the resolved instructions
pub data MayAskMemory (version : Version) (maps : List MapDef) (code : List Insn) : Type 0 where
  passed_jump : (slot : ℕ) → IsPassedJump version maps code slot → MayAskMemory version maps code
  passed_all : (states : List (Option State)) → Accepts version maps code states → MayAskMemory version maps code

-- the program has structure, and the instruction at this slot is the first that breaks a rule
pub record IsFirstBroken (version : Version) (maps : List MapDef) (code : List Insn) (slot : ℕ) (why : BrokenRule) : Type 0 where
  pub shape : HasShape code
  pub states : List (Option State)
  pub entry : AreEntryStates version maps code states (slot + 1)
  pub earlier : (before : ℕ) → before < slot → PassesChecks maps code states before
  pub insn : Insn
  pub state : State
  pub here : instruction_at code slot ≡ Some insn
  pub known : known_at states slot ≡ Some state
  pub breaks : flow_of maps state slot insn ≡ Err why

-- the first rule that a program breaks: those of structure first, and then those of kinds by rising slot. Lack of memory may be
-- reported in place of a rule of kinds, where memory may have been asked for before the rule was looked at.
pub data IsFirstReject (version : Version) (maps : List MapDef) (code : List Insn) (reject : Reject) : Type 0 where
  has_no_shape : (fault : ShapeFault) → IsFirstFault code fault → reject ≡ reject_of_shape fault → IsFirstReject version maps code reject
  breaks_rule : (slot : ℕ) (why : BrokenRule) → IsFirstBroken version maps code slot why →
      reject ≡ reject_of_rule slot why → IsFirstReject version maps code reject
  wants_memory : HasShape code → MayAskMemory version maps code → reject ≡ Memory → IsFirstReject version maps code reject
