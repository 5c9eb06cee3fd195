-- A program with what is known before each instruction, in words.
use Rattle.std.specs.Prelude.{ℕ, ◌+◌, ◌-◌, ◌*◌, ◌||◌, Bool, false, List, [], ◌∷◌, ◌++◌, Option, Some, None, codes, decimal, if◌then◌else◌}
use Rattle.ebpf_decode.specs.declared.insn.Insn.{Insn}
use Rattle.abstract_state.specs.declared.kind.Kind.{Kind}
use Rattle.abstract_state.specs.declared.kind.Kind.TheVariants.{Unset}
use Rattle.abstract_state.specs.declared.kind.StackWord.{StackWord}
use Rattle.abstract_state.specs.declared.kind.StackWord.TheVariants.{Spilled, Bytes}
use Rattle.abstract_state.specs.declared.state.State.{State}
use Rattle.verifier.specs.Dataflow.{known_at}
use Rattle.verifier.specs.Surveys.{slot_of_index}
use Rattle.reasons.specs.Wording.{kind_text, word_text}
use Rattle.reasons.specs.Instructions.{slot_line}
use Rattle.reasons.specs.Readers.{reason_of, reason_line}

-- the texts of the items of a list, each by its index
abbrev pub indexed_text : {A : Type 0} → (ℕ → A → List ℕ) → ℕ → List A → List ℕ
indexed_text f index [] = []
indexed_text f index (x ∷ xs) = f index x ++ indexed_text f (index + 1) xs

-- ---- what is known

unfoldable pub register_place : ℕ → List ℕ
register_place number = codes " r" ++ (decimal number ++ codes " ")

unfoldable pub word_place : ℕ → List ℕ
word_place below = codes " r10-" ++ (decimal below ++ codes " ")

abbrev pub set_item : ℕ → Kind → List ℕ
set_item number kind = register_place number ++ (kind_text kind ++ codes ";")

-- of an unset register nothing is printed
abbrev pub register_item : ℕ → Kind → List ℕ
register_item number Unset = []
register_item number kind = set_item number kind

abbrev pub is_any : List Bool → Bool
is_any [] = false
is_any (first ∷ rest) = first || is_any rest

abbrev pub word_item_text : ℕ → StackWord → List ℕ
word_item_text word known = word_place (512 - 8 * word) ++ (word_text known ++ codes ";")

-- and of a word of the stack only where something is known of it
abbrev pub word_item : ℕ → StackWord → List ℕ
word_item word (Spilled kind) = word_item_text word (Spilled kind)
word_item word (Bytes set) = if is_any set then word_item_text word (Bytes set) else []

abbrev pub known_items : State → List ℕ
known_items state = indexed_text register_item 0 state.registers ++ indexed_text word_item 0 state.stack

-- ---- instructions

-- the instruction, what is known before it, and why it is no reader's
abbrev pub state_lines : Insn → State → List ℕ
state_lines insn state = codes "    known:" ++ (known_items state ++ (codes "\n" ++ reason_line (reason_of state insn)))

abbrev pub known_lines : Insn → Option State → List ℕ
known_lines insn (Some state) = state_lines insn state
known_lines insn None = []

abbrev pub entry_text : ℕ → Insn → Option State → List ℕ
entry_text slot insn known = slot_line slot insn ++ known_lines insn known

-- by the index of an instruction in the program
abbrev pub indexed_entry : List (Option State) → List Insn → ℕ → Insn → List ℕ
indexed_entry states code index insn = entry_text (slot_of_index code index) insn (known_at states (slot_of_index code index))

abbrev pub program_text : List (Option State) → List Insn → List ℕ
program_text states code = indexed_text (indexed_entry states code) 0 code
