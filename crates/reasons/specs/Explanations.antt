-- What is printed of a program: of a refused one why, of an accepted one what is known before each instruction.
use Rattle.std.specs.Prelude.{◌≡◌, ℕ, List, [], ◌++◌, Option, Some, None, Ok, Err}
use Rattle.ebpf_decode.specs.declared.insn.Insn.{Insn}
use Rattle.ebpf_decode.specs.declared.map.MapDef.{MapDef}
use Rattle.ebpf_decode.specs.declared.version.Version.{Version}
use Rattle.semantics.specs.Program.{instruction_at}
use Rattle.image_shape.specs.declared.fault.ShapeFault.{ShapeFault}
use Rattle.image_shape.specs.Structure.{IsFirstFault}
use Rattle.abstract_state.specs.declared.broken_rule.BrokenRule.{BrokenRule}
use Rattle.abstract_state.specs.declared.broken_rule.BrokenRule.TheVariants.{UnsetRegister}
use Rattle.abstract_state.specs.declared.flow.Flow.{Flow}
use Rattle.abstract_state.specs.declared.state.State.{State}
use Rattle.abstract_state.specs.States.{Checked}
use Rattle.abstract_state.specs.Flow.{flow_of}
use Rattle.verifier.specs.declared.survey.Survey.{Survey}
use Rattle.verifier.specs.Dataflow.{known_at, states_of, Accepts, IsFirstBroken}
use Rattle.verifier.specs.Rejects.{reject_of_shape, reject_slot}
use Rattle.reasons.specs.declared.cause.Cause.{Cause}
use Rattle.reasons.specs.Causes.{cause_of, cause_of_structure}
use Rattle.reasons.specs.Origins.{IsOrigin, CoversBefore}
use Rattle.reasons.specs.Instructions.{slot_line, used_text}
use Rattle.reasons.specs.Advices.{IsAdvised}
use Rattle.reasons.specs.Annotations.{program_text}

-- ---- refused programs

-- the instruction, where one begins at the slot
abbrev pub begun_line : ℕ → Option Insn → List ℕ
begun_line slot (Some insn) = slot_line slot insn
begun_line slot None = []

abbrev pub begun_at : List Insn → Option ℕ → List ℕ
begun_at code (Some slot) = begun_line slot (instruction_at code slot)
begun_at code None = []

-- the instruction, then what is known of what it uses
abbrev pub broken_lines : List MapDef → ℕ → Insn → State → List ℕ
broken_lines maps slot insn state = slot_line slot insn ++ used_text maps state insn

-- why an instruction breaks a rule: where a register is unset by the edges that lead there, else by what is known before it
abbrev pub IsCause : Version → List MapDef → List Insn → ℕ → Insn → State → BrokenRule → Cause → Type 0
IsCause version maps code slot insn state (UnsetRegister register) cause = IsOrigin version maps code register slot cause
IsCause version maps code slot insn state why cause = cause ≡ cause_of maps state insn why

-- the rule that is broken, if one is
abbrev pub broken_in : Checked Flow → Option BrokenRule
broken_in (Ok flow) = None
broken_in (Err why) = Some why

-- the instruction at the slot is the first that breaks a rule, in this state, and of each before it the survey has what is known
pub record IsRefusedAt (version : Version) (maps : List MapDef) (code : List Insn) (survey : Survey) (slot : ℕ) (insn : Insn)
    (state : State) : Type 0 where
  pub why : BrokenRule
  pub first : IsFirstBroken version maps code slot why
  pub here : instruction_at code slot ≡ Some insn
  pub known : known_at (states_of version maps code) slot ≡ Some state
  pub breaks : flow_of maps state slot insn ≡ Err why
  pub covers : CoversBefore code survey slot

-- ---- all programs

-- the instruction at the slot is the first that breaks a rule, and the text describes it by what is known there
pub record TellsBroken (version : Version) (maps : List MapDef) (code : List Insn) (text : List ℕ) : Type 0 where
  pub slot : ℕ
  pub why : BrokenRule
  pub first : IsFirstBroken version maps code slot why
  pub insn : Insn
  pub here : instruction_at code slot ≡ Some insn
  pub state : State
  pub known : known_at (states_of version maps code) slot ≡ Some state
  pub cause : Cause
  pub is_cause : IsCause version maps code slot insn state why cause
  pub told : IsAdvised (broken_lines maps slot insn state) cause text

-- the program's first fault of structure, and the text describes the instruction at its slot
pub record TellsShape (code : List Insn) (text : List ℕ) : Type 0 where
  pub fault : ShapeFault
  pub first : IsFirstFault code fault
  pub told : IsAdvised (begun_at code (reject_slot (reject_of_shape fault))) (cause_of_structure (reject_of_shape fault)) text

-- no rule is broken, and the text has each instruction with what is known before it
pub record TellsProgram (version : Version) (maps : List MapDef) (code : List Insn) (text : List ℕ) : Type 0 where
  pub accepted : Accepts version maps code (states_of version maps code)
  pub told : text ≡ program_text (states_of version maps code) code

pub data IsExplanation (version : Version) (maps : List MapDef) (code : List Insn) (text : List ℕ) : Type 0 where
  of_shape : TellsShape code text → IsExplanation version maps code text
  of_broken : TellsBroken version maps code text → IsExplanation version maps code text
  of_program : TellsProgram version maps code text → IsExplanation version maps code text
