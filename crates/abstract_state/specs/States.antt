-- What is known of a run: the kinds of its registers and the words of its stack, and where a run begins.
use Rattle.std.specs.Prelude.{ℕ, Bool, true, false, List, [], ◌∷◌, Result, Ok, Err, replicate, slice_index_or, slice_set}
use Rattle.isa.specs.declared.operation.Register.{Register}
use Rattle.isa.specs.InstructionCodes.{register_number}
pub use Rattle.semantics.specs.MachineState.{stack_size}
pub use Rattle.semantics.specs.Program.{value_size_of, key_size_of}
use Rattle.ebpf_decode.specs.declared.version.Version.{Version}
use Rattle.abstract_state.specs.declared.kind.Kind.{Kind}
use Rattle.abstract_state.specs.declared.kind.Kind.TheVariants.{Unset, Ctx, Stack}
use Rattle.abstract_state.specs.declared.kind.StackWord.{StackWord}
use Rattle.abstract_state.specs.declared.kind.StackWord.TheVariants.{Spilled, Bytes}
use Rattle.abstract_state.specs.declared.broken_rule.BrokenRule.{BrokenRule}
use Rattle.abstract_state.specs.declared.state.State.{State}

-- what an instruction makes, or the first rule that it breaks
abbrev pub Checked : Type 0 → Type 0
Checked A = Result A BrokenRule

infixl 10 ◌>>=◌
abbrev pub ◌>>=◌ : {A B : Type 0} → Checked A → (A → Checked B) → Checked B
(Ok x) >>= go = go x
(Err why) >>= go = Err why

-- ---- registers

abbrev pub kind_of : State → Register → Kind
kind_of state register = slice_index_or state.registers (register_number register) Unset

abbrev pub with_kind : State → Register → Kind → State
with_kind state register kind = record state { registers = slice_set state.registers (register_number register) kind }

-- ---- the stack

abbrev pub word_of : State → ℕ → StackWord
word_of state place = slice_index_or state.stack place (Spilled Unset)

abbrev pub with_word : State → ℕ → StackWord → State
with_word state place word = record state { stack = slice_set state.stack place word }

abbrev pub no_bytes : List Bool
no_bytes = replicate 8 false

abbrev pub all_bytes : List Bool
all_bytes = replicate 8 true

-- ---- where a run begins: R1 is the context, R10 the frame pointer

abbrev pub opening_state : Version → State
opening_state version = record {
  version = version;
  registers = Unset ∷ Ctx ∷ Unset ∷ Unset ∷ Unset ∷ Unset ∷ Unset ∷ Unset ∷ Unset ∷ Unset ∷ Stack stack_size ∷ [];
  stack = replicate 64 (Bytes no_bytes);
  start_range = 0;
}
