use Rattle.std.proofs.Common.{◌≡◌, ◌≤◌, take}
use Rattle.ebpf_decode.specs.InstructionEncoding.{total_slots}
use Rattle.reasons.proofs.refused.instruction_at.Given as goal

abbrev pub invariant-loop-insn : goal.invariant-loop-insn
invariant-loop-insn l = record {
  at : l.at ≡ total_slots (take l.insn-index l.code);
  before : l.at ≤ l.slot;
}
