-- What the passes over a program keep by slot.
use Rattle.std.specs.Prelude.{◌≡◌, ℕ, Bool, true, false, ℤ, pos, ◌≤ℤ◌, ◌⊎◌, List, Some, slice_index_or}
use Rattle.ebpf_decode.specs.declared.insn.Insn.{Insn}
use Rattle.ebpf_decode.specs.InstructionEncoding.{total_slots}
use Rattle.ebpf_decode.specs.Jumps.{jump_target}
use Rattle.image_shape.specs.Edges.{is_begin}

-- the marks are at the slots where instructions begin, and this is how many slots there are
pub record IsLayout (code : List Insn) (begins : List Bool) (total : ℕ) : Type 0 where
  pub marked : (slot : ℕ) → slice_index_or begins slot false ≡ is_begin code slot
  pub slots : total ≡ total_slots code

-- the target of a jump is not below 0
abbrev pub HasNoNegativeTarget : ℕ → Insn → Type 0
HasNoNegativeTarget slot insn = (target : ℤ) → jump_target slot insn ≡ Some target → pos 0 ≤ℤ target

-- these slots are marked too, and no others
pub record IsMarked (slots : ℕ → Type 0) (before after : List Bool) : Type 0 where
  pub kept : (k : ℕ) → slice_index_or before k false ≡ true → slice_index_or after k false ≡ true
  pub added : (k : ℕ) → slots k → slice_index_or after k false ≡ true
  pub no_others : (k : ℕ) → slice_index_or after k false ≡ true → (slice_index_or before k false ≡ true) ⊎ slots k
