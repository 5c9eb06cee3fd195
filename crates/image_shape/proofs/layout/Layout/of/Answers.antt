use Rattle.std.proofs.Common.{◌<◌, refl, arith}
use Rattle.ebpf_decode.specs.InstructionEncoding.{total_slots}
use Rattle.image_shape.proofs.shared.SlotLemmas.{slot_within, next_at, whole_at}
use Rattle.image_shape.proofs.LayoutLemmas.{layout_at_start, layout_step, layout_done}
use Rattle.image_shape.proofs.layout.Layout.of.Goals as goal

pub loop-insn-init : goal.loop-insn-init
loop-insn-init c = record { at = refl; so_far = layout_at_start _ }

pub bounds-begins-slot : goal.bounds-begins-slot
bounds-begins-slot c =
    let within : c.loop-insn.slot < total_slots c.args.code.now = slot_within _ _ _ c.loop-insn-test.true c.loop-insn.invariant.at in
    omega arith

pub loop-insn-preserved : goal.loop-insn-preserved
loop-insn-preserved c =
    let within : c.loop-insn.slot < total_slots c.args.code.now = slot_within _ _ _ c.loop-insn-test.true c.loop-insn.invariant.at in
    record {
      at = rw c.slot_count.ensures.count (next_at _ _ _ _ c.loop-insn-test.true c.loop-insn.invariant.at);
      so_far = rw c.slot_count.ensures.count (layout_step _ _ _ _ _ c.loop-insn-test.true c.loop-insn.invariant.at (omega arith) c.loop-insn.invariant.so_far);
    }

pub returns : goal.returns
returns c = layout_done _ _ _ (whole_at _ _ _ c.loop-insn-test.false c.loop-insn.invariant.at) c.loop-insn.invariant.so_far
