-- How far an instruction jumps, and where to (RFC 9669, section 4.3).
use Rattle.std.specs.Prelude.{ℕ, ◌+◌, ℤ, pos, ◌+ℤ◌, Option, Some, None, option_map}
use Rattle.ebpf_decode.specs.declared.insn.Insn.{Insn}
use Rattle.ebpf_decode.specs.declared.insn.Insn.TheVariants.{Ja, Ja32, JumpIf}

-- in slots from the slot after it; none of an instruction that is no jump
unfoldable pub jump_distance : Insn → Option ℤ
jump_distance (Ja distance) = Some distance
jump_distance (Ja32 distance) = Some distance
jump_distance (JumpIf width test dst source distance) = Some distance
jump_distance insn = None

-- the same, and 0 of an instruction that is no jump
abbrev pub distance_of_jump : Insn → ℤ
distance_of_jump (Ja distance) = distance
distance_of_jump (Ja32 distance) = distance
distance_of_jump (JumpIf width test dst source distance) = distance
distance_of_jump insn = pos 0

-- where the instruction in this slot jumps: the slot after it, plus the distance
abbrev pub jump_target : ℕ → Insn → Option ℤ
jump_target slot insn = option_map (λ (distance : ℤ). pos (slot + 1) +ℤ distance) (jump_distance insn)
