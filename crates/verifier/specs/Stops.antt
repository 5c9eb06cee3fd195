-- Why a sweep stops at an instruction.
use Rattle.std.specs.Prelude.{◌≡◌, ℕ, List, Option, Some, Ok, Err, IsTrue}
use Rattle.ebpf_decode.specs.declared.insn.Insn.{Insn}
use Rattle.ebpf_decode.specs.declared.map.MapDef.{MapDef}
use Rattle.abstract_state.specs.declared.flow.Flow.{Flow}
use Rattle.abstract_state.specs.declared.broken_rule.BrokenRule.{BrokenRule}
use Rattle.abstract_state.specs.declared.state.State.{State}
use Rattle.abstract_state.specs.Flow.{flow_of}
use Rattle.verifier.specs.declared.reject.Reject.{Reject}
use Rattle.verifier.specs.declared.reject.Reject.TheVariants.{Memory}
use Rattle.verifier.specs.Dataflow.{jumps}
use Rattle.verifier.specs.Rejects.{reject_of_rule}

-- the instruction breaks a rule in what is known
pub record BreaksRule (maps : List MapDef) (slot : ℕ) (insn : Insn) (known : Option State) (why : BrokenRule) : Type 0 where
  pub state : State
  pub is : known ≡ Some state
  pub breaks : flow_of maps state slot insn ≡ Err why

-- it breaks none, and an edge leads past the next instruction
pub record WantsRoom (maps : List MapDef) (slot : ℕ) (insn : Insn) (known : Option State) : Type 0 where
  pub state : State
  pub is : known ≡ Some state
  pub flow : Flow
  pub flows : flow_of maps state slot insn ≡ Ok flow
  pub is_jump : IsTrue (jumps flow)

-- the first rule that it breaks; or, where an edge leads past the next instruction, lack of memory
pub data IsStop (maps : List MapDef) (slot : ℕ) (insn : Insn) (known : Option State) (reject : Reject) : Type 0 where
  stops_at_rule : (why : BrokenRule) → BreaksRule maps slot insn known why → reject ≡ reject_of_rule slot why →
      IsStop maps slot insn known reject
  stops_for_memory : WantsRoom maps slot insn known → reject ≡ Memory → IsStop maps slot insn known reject
