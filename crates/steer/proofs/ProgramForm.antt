-- The form of the shipped program, by computation.
use Rattle.std.proofs.Common.{◌≡◌, ℕ, true, refl}
use Rattle.ebpf_decode.specs.InstructionEncoding.{slot_count, total_slots}
use Rattle.ebpf_decode.specs.Jumps.{jump_distance}
use Rattle.steer.specs.BlockForm.{are_blocks}
use Rattle.steer.specs.ShippedProgram.{shipped_blocks, code_of}

pub in_blocks : (size : ℕ) → are_blocks 0 (shipped_blocks size) ≡ true
unfolding slot_count jump_distance
in_blocks size = refl

pub slots : (size : ℕ) → total_slots (code_of (shipped_blocks size)) ≡ 219
unfolding slot_count
slots size = refl
