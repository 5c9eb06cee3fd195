-- Why a register is unset where it is read: nothing was written to it, an instruction left it so, or the paths that meet somewhere
-- disagree.
use Rattle.std.specs.Prelude.{◌≡◌, ◌<◌, ℕ, Bool, true, false, not, List, length, Option, Some, None, IfSome, IsTrue, if◌then◌else◌}
use Rattle.isa.specs.declared.operation.Register.{Register}
use Rattle.ebpf_decode.specs.declared.insn.Insn.{Insn}
use Rattle.ebpf_decode.specs.declared.insn.Insn.TheVariants.{CallHelper}
use Rattle.ebpf_decode.specs.declared.map.MapDef.{MapDef}
use Rattle.ebpf_decode.specs.declared.version.Version.{Version}
use Rattle.semantics.specs.Program.{instruction_at}
use Rattle.abstract_state.specs.declared.kind.Kind.{Kind}
use Rattle.abstract_state.specs.declared.kind.Kind.TheVariants.{Unset}
use Rattle.abstract_state.specs.declared.state.State.{State}
use Rattle.abstract_state.specs.States.{kind_of}
use Rattle.abstract_state.specs.Join.{join_kind}
use Rattle.verifier.specs.declared.survey.Survey.{Survey}
use Rattle.verifier.specs.Dataflow.{known_at, states_of, arriving_from}
use Rattle.verifier.specs.Surveys.{slot_of_index}
use Rattle.reasons.specs.declared.cause.Cause.{Cause}
use Rattle.reasons.specs.declared.cause.Cause.TheVariants.{NeverWritten, ClearedByCall, LeftUnset, PathsDisagree}
use Rattle.reasons.specs.declared.origin.Arrival.{Arrival}
use Rattle.reasons.specs.declared.origin.Back.{Back}
use Rattle.reasons.specs.declared.origin.Back.TheVariants.{Found, Further}

-- ---- edges

-- what the edges of an instruction alone bring to a slot
abbrev pub brought_by : List MapDef → ℕ → Insn → State → ℕ → Option State
brought_by maps slot insn state target = arriving_from maps slot (Some insn) (Some state) target None

-- what they bring of a register, from what is known before the instruction
pub record IsArrival (maps : List MapDef) (slot : ℕ) (insn : Insn) (known : Option State) (target : ℕ) (register : Register)
    (arrival : Arrival) : Type 0 where
  pub from : arrival.from ≡ slot
  pub insn_is : arrival.insn ≡ insn
  pub state : State
  pub is : known ≡ Some state
  pub before : arrival.before ≡ kind_of state register
  pub brought : State
  pub brings : brought_by maps slot insn state target ≡ Some brought
  pub after : arrival.after ≡ kind_of brought register

-- the same of an instruction of the program, in its entry state
pub record Brings (version : Version) (maps : List MapDef) (code : List Insn) (target : ℕ) (register : Register)
    (arrival : Arrival) : Type 0 where
  pub here : instruction_at code arrival.from ≡ Some arrival.insn
  pub arrives : IsArrival maps arrival.from arrival.insn (known_at (states_of version maps code) arrival.from) target register arrival

-- what the edges from a slot alone bring, if an instruction begins there and something is known before it
abbrev pub brought_from : Version → List MapDef → List Insn → ℕ → ℕ → Option State
brought_from version maps code from target =
    arriving_from maps from (instruction_at code from) (known_at (states_of version maps code) from) target None

-- ---- kinds

abbrev pub is_unset : Kind → Bool
is_unset Unset = true
is_unset kind = false

-- together they leave nothing known, though one at least is known
abbrev pub disagree : Version → Kind → Kind → Bool
disagree version Unset other = not (is_unset other)
disagree version one other = is_unset (join_kind version one other)

abbrev pub is_sought : Version → Option Kind → Kind → Bool
is_sought version (Some other) kind = disagree version other kind
is_sought version None kind = true

abbrev pub is_call : Insn → Bool
is_call (CallHelper helper) = true
is_call insn = false

-- no edge from a slot before the target brings a kind that is sought
abbrev pub NoneBrings : Version → List MapDef → List Insn → ℕ → Register → Option Kind → Type 0
NoneBrings version maps code target register unlike =
    (from : ℕ) → from < target →
    IfSome (brought_from version maps code from target) (λ brought. is_sought version unlike (kind_of brought register) ≡ false)

-- ---- where a register becomes unset

-- it is, in what is known at the slot
pub record IsUnsetAt (version : Version) (maps : List MapDef) (code : List Insn) (register : Register) (slot : ℕ) : Type 0 where
  pub state : State
  pub known : known_at (states_of version maps code) slot ≡ Some state
  pub unset : kind_of state register ≡ Unset

-- along edges from one slot to another the register is unset wherever they arrive
pub data StaysUnset (version : Version) (maps : List MapDef) (code : List Insn) (register : Register) : ℕ → ℕ → Type 0 where
  stays_there : (slot : ℕ) → StaysUnset version maps code register slot slot
  stays_along : (mid to : ℕ) (arrival : Arrival) → Brings version maps code mid register arrival → arrival.after ≡ Unset →
      StaysUnset version maps code register mid to → StaysUnset version maps code register arrival.from to

-- two edges that meet at the slot bring what disagrees
pub record IsDisagreement (version : Version) (maps : List MapDef) (code : List Insn) (register : Register) (slot : ℕ)
    (cause : Cause) : Type 0 where
  pub one : Arrival
  pub other : Arrival
  pub one_brings : Brings version maps code slot register one
  pub other_brings : Brings version maps code slot register other
  pub disagree : IsTrue (disagree version one.after other.after)
  pub told : cause ≡ PathsDisagree slot one.from one.after other.from other.after

-- what is printed of an instruction that leaves a register unset which was set before it: a call does, and a jump whose two edges lead to
-- one slot with kinds that disagree
abbrev pub cleared_by : Arrival → Cause
cleared_by arrival = if is_call arrival.insn then ClearedByCall arrival.from else LeftUnset arrival.from

-- an instruction leaves the register unset, which was set before it
pub record IsClearing (version : Version) (maps : List MapDef) (code : List Insn) (register : Register) (slot : ℕ)
    (cause : Cause) : Type 0 where
  pub arrival : Arrival
  pub brings : Brings version maps code slot register arrival
  pub cleared : arrival.after ≡ Unset
  pub set : is_unset arrival.before ≡ false
  pub told : cause ≡ cleared_by arrival

-- what an edge that brings the register unset says
abbrev pub along : Arrival → Back
along arrival = if is_unset arrival.before then Further arrival.from else Found (cleared_by arrival)

-- what a look at the edges finds that lead to a slot: the cause, or an edge from before it along which the register stays unset
pub data LooksBack (version : Version) (maps : List MapDef) (code : List Insn) (register : Register) (slot : ℕ) (back : Back) : Type 0 where
  looks_at_paths : (cause : Cause) → IsDisagreement version maps code register slot cause → back ≡ Found cause →
      LooksBack version maps code register slot back
  looks_at_clearing : (cause : Cause) → IsClearing version maps code register slot cause → back ≡ Found cause →
      LooksBack version maps code register slot back
  looks_further : (arrival : Arrival) → Brings version maps code slot register arrival → arrival.after ≡ Unset → arrival.before ≡ Unset →
      arrival.from < slot → back ≡ Further arrival.from → LooksBack version maps code register slot back

-- why the register is unset at the slot, by a path along which it stays so: from slot 0, where it is unset, or from where it became so
pub data IsOrigin (version : Version) (maps : List MapDef) (code : List Insn) (register : Register) (slot : ℕ)
    (cause : Cause) : Type 0 where
  never_written : IsUnsetAt version maps code register 0 → StaysUnset version maps code register 0 slot → cause ≡ NeverWritten →
      IsOrigin version maps code register slot cause
  paths_disagree : (at : ℕ) → IsDisagreement version maps code register at cause → StaysUnset version maps code register at slot →
      IsOrigin version maps code register slot cause
  left_unset : (at : ℕ) → IsClearing version maps code register at cause → StaysUnset version maps code register at slot →
      IsOrigin version maps code register slot cause

-- ---- what a look back needs

-- a survey has what is known of each instruction before the slot
abbrev pub CoversBefore : List Insn → Survey → ℕ → Type 0
CoversBefore code survey slot = (index : ℕ) → index < length code → slot_of_index code index < slot → index < length survey.known.items
