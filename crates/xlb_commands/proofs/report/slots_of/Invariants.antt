use Rattle.std.proofs.Common.{◌≡◌, take}
use Rattle.ebpf_decode.specs.InstructionEncoding.{total_slots}
use Rattle.xlb_commands.proofs.report.slots_of.Given as goal

abbrev pub invariant-loop-insn : goal.invariant-loop-insn
invariant-loop-insn l = l.slots ≡ total_slots (take l.insn-index l.code)
