-- What a survey tells: the cause of a broken rule, and of a program that breaks none what is known at each slot.
use Rattle.std.proofs.Common.{◌≡◌, ℕ, ◌<◌, Bool, List, length, Option, None, Result, Ok, Err, refl, ◌∙◌, arith}
use Rattle.std.specs.Prelude.{slice_index_or, IsOk}
use Rattle.std.proofs.lemmas.List.{get_or_default}
use Rattle.isa.specs.declared.operation.Register.{Register}
use Rattle.ebpf_decode.specs.declared.insn.Insn.{Insn}
use Rattle.ebpf_decode.specs.declared.map.MapDef.{MapDef}
use Rattle.ebpf_decode.specs.declared.version.Version.{Version}
use Rattle.abstract_state.specs.declared.broken_rule.BrokenRule.{BrokenRule}
use Rattle.abstract_state.specs.declared.broken_rule.BrokenRule.TheVariants.{UnsetRegister}
use Rattle.abstract_state.specs.declared.state.State.{State}
use Rattle.verifier.specs.declared.reject.Reject.{Reject}
use Rattle.verifier.specs.declared.survey.Survey.{Survey}
use Rattle.verifier.specs.Dataflow.{known_at, states_of}
use Rattle.verifier.specs.Surveys.{slot_of_index, IsSurvey, EndsSo}
use Rattle.reasons.specs.declared.cause.Cause.{Cause}
use Rattle.reasons.specs.Causes.{cause_of}
use Rattle.reasons.specs.Explanations.{IsCause}

-- of another rule than that of unset registers the cause is found from the state alone
pub cause_elsewhere : (version : Version) (maps : List MapDef) (code : List Insn) (slot : ℕ) (insn : Insn) (state : State) (why : BrokenRule) (cause : Cause) →
    ((register : Register) → why ≡ UnsetRegister register → ⊥) → cause ≡ cause_of maps state insn why → IsCause version maps code slot insn state why cause
cause_elsewhere version maps code slot insn state (UnsetRegister register) cause other e = absurd (other register refl)
cause_elsewhere version maps code slot insn state why cause other e = e

ends_whole : (version : Version) (maps : List MapDef) (code : List Insn) (count : ℕ) (verdict : Result Bool Reject) → IsOk verdict →
    EndsSo version maps code count verdict → count ≡ length code
ends_whole version maps code count (Ok reads) ok ends = ends.1.0
ends_whole version maps code count (Err reject) ok ends = absurd cc

-- where no instruction breaks a rule, something is known of each
pub known_here : (version : Version) (maps : List MapDef) (code : List Insn) (survey : Survey) (index : ℕ) (known : Option State) →
    IsSurvey version maps code survey → IsOk survey.verdict → index < length code →
    known ≡ slice_index_or survey.known.items index known → known ≡ known_at (states_of version maps code) (slot_of_index code index)
known_here version maps code survey index known is ok within read =
    let whole = ends_whole version maps code _ survey.verdict ok is.ends
    in let inside : index < length survey.known.items = omega (arith, whole)
    in read ∙ get_or_default survey.known.items index known None inside ∙ is.known index inside
