use Rattle.std.proofs.Common.{◌<◌, arith}
use Rattle.ebpf_decode.specs.InstructionEncoding.{total_slots}
use Rattle.image_shape.proofs.shared.SlotLemmas.{slot_within, next_at, whole_at}
use Rattle.xlb_commands.proofs.report.slots_of.Goals as goal

pub overflow_add-slots : goal.overflow_add-slots
overflow_add-slots c =
    let within : c.loop-insn.slots < total_slots c.args.code.now = slot_within _ _ _ c.loop-insn-test.true c.loop-insn.invariant in
    omega arith

pub loop-insn-preserved : goal.loop-insn-preserved
loop-insn-preserved c = rw c.slot_count-slots.ensures.count (next_at _ _ _ _ c.loop-insn-test.true c.loop-insn.invariant)

pub returns : goal.returns
returns c = whole_at _ _ _ c.loop-insn-test.false c.loop-insn.invariant
