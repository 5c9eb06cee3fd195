use Rattle.std.proofs.Common.{sym, ◌∙◌}
use Rattle.image_shape.proofs.shared.SlotLemmas.{slot_within, next_at, whole_at}
use Rattle.image_shape.proofs.shared.FaultLemmas.{found_bad, good_next, all_good}
use Rattle.image_shape.proofs.shape.check_edges.Goals as goal

pub instruction_fault-requires-clause-within : goal.instruction_fault-requires-clause-within
instruction_fault-requires-clause-within c = rw c.of-layout.ensures.slots (slot_within _ _ _ c.loop-insn-test.true c.loop-insn.invariant.at)

pub returns-in-Some-clause-fault : goal.returns-in-Some-clause-fault
returns-in-Some-clause-fault c =
    found_bad _ _ _ _ _ _ _ c.of-layout.ensures c.loop-insn-test.true c.loop-insn.invariant.at (sym c.instruction_fault.ensures ∙ c.in-Some.is) c.loop-insn.invariant.good

pub loop-insn-preserved : goal.loop-insn-preserved
loop-insn-preserved c = record {
  at = rw c.slot_count.ensures.count (next_at _ _ _ _ c.loop-insn-test.true c.loop-insn.invariant.at);
  good = rw c.slot_count.ensures.count (good_next _ _ _ _ _ _ c.of-layout.ensures c.loop-insn-test.true c.loop-insn.invariant.at (sym c.instruction_fault.ensures ∙ c.in-None.is) c.loop-insn.invariant.good);
}

pub returns-clause-edges : goal.returns-clause-edges
returns-clause-edges c = all_good _ _ (whole_at _ _ _ c.loop-insn-test.false c.loop-insn.invariant.at) c.loop-insn.invariant.good
