-- When a list of blocks has the form in which a program can be read and proved block by block: no block is long, and control leaves a
-- block only past its end or for the start of a later one.
use Rattle.std.specs.Prelude.{ℕ, ◌+◌, ◌==◌, Bool, true, false, ◌&&◌, ◌||◌, nat_lt, nat_le, ℤ, pos, negsuc, List, [], ◌∷◌, length, Option}
use Rattle.std.specs.Prelude.{Some, None}
use Rattle.ebpf_decode.specs.declared.insn.Insn.{Insn}
use Rattle.ebpf_decode.specs.InstructionEncoding.{slot_count, total_slots}
use Rattle.ebpf_decode.specs.Jumps.{jump_distance}

-- one of these blocks starts at the target, where the first of them starts at this slot
abbrev pub is_start : ℕ → ℕ → List (List Insn) → Bool
is_start target slot [] = false
is_start target slot (block ∷ blocks) = target == slot || is_start target (slot + total_slots block) blocks

-- a jump by this distance from the slot `next` stays before the block's end, or leads to the start of a later block
abbrev pub lands : ℕ → ℕ → List (List Insn) → Option ℤ → Bool
lands next end later None = true
lands next end later (Some (pos distance)) = nat_lt (next + distance) end || is_start (next + distance) end later
lands next end later (Some (negsuc distance)) = false

-- each jump of these instructions does, from this slot on
abbrev pub jumps_land : ℕ → ℕ → List (List Insn) → List Insn → Bool
jumps_land slot end later [] = true
jumps_land slot end later (insn ∷ block) =
    lands (slot + slot_count insn) end later (jump_distance insn) && jumps_land (slot + slot_count insn) end later block

-- blocks of at most 64 instructions, whose jumps leave a block only for the start of a later one; the first starts at this slot
abbrev pub are_blocks : ℕ → List (List Insn) → Bool
are_blocks slot [] = true
are_blocks slot (block ∷ blocks) =
    nat_le (length block) 64
    && jumps_land slot (slot + total_slots block) blocks block
    && are_blocks (slot + total_slots block) blocks
