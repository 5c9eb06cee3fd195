-- The edges of a program: from an instruction to the slots at which a run may go on after it (RFC 9669, section 4.3).
use Rattle.std.specs.Prelude.{◌≡◌, ℕ, ◌+◌, Bool, true, false, pos, ◌⊎◌, List, Some, IsTrue, is_some}
use Rattle.ebpf_decode.specs.declared.insn.Insn.{Insn}
use Rattle.ebpf_decode.specs.declared.insn.Insn.TheVariants.{Ja, Ja32, Exit}
use Rattle.ebpf_decode.specs.InstructionEncoding.{slot_count}
use Rattle.ebpf_decode.specs.Jumps.{jump_target}
use Rattle.semantics.specs.Program.{instruction_at}

-- a run may go on at the slot after the instruction
unfoldable pub falls_through : Insn → Bool
falls_through (Ja distance) = false
falls_through (Ja32 distance) = false
falls_through Exit = false
falls_through insn = true

-- a run may go on at the target, which is the slot after the instruction
abbrev pub IsFall : ℕ → Insn → ℕ → Type 0
IsFall slot insn target = IsTrue (falls_through insn) × (target ≡ slot + slot_count insn)

-- a run may jump to the target
abbrev pub IsJump : ℕ → Insn → ℕ → Type 0
IsJump slot insn target = jump_target slot insn ≡ Some (pos target)

-- from the instruction at this slot a run may go to the target: both edges of a conditional jump count
abbrev pub IsEdge : ℕ → Insn → ℕ → Type 0
IsEdge slot insn target = IsFall slot insn target ⊎ IsJump slot insn target

-- an instruction begins at the slot
abbrev pub is_begin : List Insn → ℕ → Bool
is_begin code slot = is_some (instruction_at code slot)

-- a path of edges leads from slot 0 to the slot
pub data IsReachableSlot (code : List Insn) : ℕ → Type 0 where
  reached_start : IsReachableSlot code 0
  reached_along : (from : ℕ) (insn : Insn) (target : ℕ) → IsReachableSlot code from → instruction_at code from ≡ Some insn →
      IsEdge from insn target → IsReachableSlot code target
