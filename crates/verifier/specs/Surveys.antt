-- What is known along a program, instruction by instruction, up to the first that breaks a rule.
use Rattle.std.specs.Prelude.{◌≡◌, ◌<◌, ◌+◌, ◌↔◌, ℕ, zero, suc, Bool, IsTrue, List, [], ◌∷◌, ◌++◌, length, take, Option, Some, None}
use Rattle.std.specs.Prelude.{Result, Ok, Err, slice_index_or}
use Rattle.ebpf_decode.specs.declared.insn.Insn.{Insn}
use Rattle.ebpf_decode.specs.declared.map.MapDef.{MapDef}
use Rattle.ebpf_decode.specs.declared.version.Version.{Version}
use Rattle.ebpf_decode.specs.InstructionEncoding.{total_slots}
use Rattle.image_shape.specs.declared.fault.ShapeFault.{ShapeFault}
use Rattle.image_shape.specs.Structure.{IsFirstFault}
use Rattle.abstract_state.specs.declared.broken_rule.BrokenRule.{BrokenRule}
use Rattle.abstract_state.specs.declared.state.State.{State}
use Rattle.verifier.specs.declared.reject.Reject.{Reject}
use Rattle.verifier.specs.declared.survey.Survey.{Survey}
use Rattle.verifier.specs.Dataflow.{known_at, states_of, Accepts, IsFirstBroken}
use Rattle.verifier.specs.Readers.{IsReader}
use Rattle.verifier.specs.Rejects.{reject_of_shape, reject_of_rule}

-- the slot at which the instruction of this index begins
abbrev pub slot_of_index : List Insn → ℕ → ℕ
slot_of_index code index = total_slots (take index code)

-- what is known on entry to each of the first this many instructions, in order
unfoldable pub known_along : Version → List MapDef → List Insn → ℕ → List (Option State)
known_along version maps code zero = []
known_along version maps code (suc index) =
    known_along version maps code index ++ known_at (states_of version maps code) (slot_of_index code index) ∷ []

-- the instruction at the slot is the first that breaks a rule, and this is what is known before it
pub record IsBroken (version : Version) (maps : List MapDef) (code : List Insn) (slot : ℕ) (why : BrokenRule) : Type 0 where
  pub first : IsFirstBroken version maps code slot why
  pub known : known_at (states_of version maps code) slot ≡ Some first.state

-- the program is refused once this many instructions were looked at: for its structure after none, else at the last of them
pub data IsRefusedAfter (version : Version) (maps : List MapDef) (code : List Insn) (count : ℕ) (reject : Reject) : Type 0 where
  has_no_structure : (fault : ShapeFault) → IsFirstFault code fault → reject ≡ reject_of_shape fault → count ≡ 0 →
      IsRefusedAfter version maps code count reject
  breaks_at_last : (index : ℕ) (why : BrokenRule) → count ≡ index + 1 → IsBroken version maps code (slot_of_index code index) why →
      reject ≡ reject_of_rule (slot_of_index code index) why → IsRefusedAfter version maps code count reject

-- the program may run, and all its instructions were looked at; or it is refused after this many
abbrev pub EndsSo : Version → List MapDef → List Insn → ℕ → Result Bool Reject → Type 0
EndsSo version maps code count (Ok is_reader) =
    Accepts version maps code (states_of version maps code)
    × ((count ≡ length code) × (IsTrue is_reader ↔ IsReader code (states_of version maps code)))
EndsSo version maps code count (Err reject) = IsRefusedAfter version maps code count reject

-- of each instruction that was looked at, what is known at its slot
pub record IsSurvey (version : Version) (maps : List MapDef) (code : List Insn) (survey : Survey) : Type 0 where
  pub known : (index : ℕ) → index < length survey.known.items →
      slice_index_or survey.known.items index None ≡ known_at (states_of version maps code) (slot_of_index code index)
  pub ends : EndsSo version maps code (length survey.known.items) survey.verdict
