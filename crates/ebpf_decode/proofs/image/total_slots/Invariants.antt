use Rattle.std.proofs.Common.{◌≡◌, ◌*◌, ◌≤◌, take}
use Rattle.ebpf_decode.specs.InstructionEncoding.{total_slots}
use Rattle.ebpf_decode.proofs.image.total_slots.Given as goal

abbrev pub invariant-loop-insn : goal.invariant-loop-insn
invariant-loop-insn l = (l.total ≡ total_slots (take l.insn-index l.code)) × (l.total ≤ 2 * l.insn-index)
