use Rattle.std.proofs.Common.{◌<◌, refl, rules, arith}
use Rattle.ebpf_decode.specs.InstructionEncoding.{total_slots}
use Rattle.image_shape.proofs.shared.SlotLemmas.{slot_within, next_at, whole_at, begins_here, instruction_here, none_inside}
use Rattle.image_shape.proofs.shared.FaultLemmas.{IsTarget, edge_is_up, no_negative_target}
use Rattle.image_shape.proofs.ReachLemmas.{reached_at_start, reached_next, unreachable_here, all_reachable}
use Rattle.image_shape.proofs.reach.check_reach.Goals as goal

pub loop-insn-init : goal.loop-insn-init
loop-insn-init c = record { at = refl; so_far = reached_at_start _ }

pub bounds-reached-slot : goal.bounds-reached-slot
bounds-reached-slot c =
    let within : c.loop-insn.slot < total_slots c.args.code.now = slot_within _ _ _ c.loop-insn-test.true c.loop-insn.invariant.at in
    omega arith

pub returns-then-not-reached-slot-clause-fault : goal.returns-then-not-reached-slot-clause-fault
returns-then-not-reached-slot-clause-fault c =
    unreachable_here _ _ _ c.requires.edges (begins_here _ _ _ c.loop-insn-test.true c.loop-insn.invariant.at) c.if-not-reached-slot.true c.loop-insn.invariant.so_far

pub mark_edges-requires-clause-targets : goal.mark_edges-requires-clause-targets
mark_edges-requires-clause-targets c target edge =
    let up : IsTarget c.args.code.now c.loop-insn.slot target = edge_is_up _ _ _ _ (c.requires.edges c.loop-insn.slot) (instruction_here _ _ _ _ c.loop-insn-test.true c.loop-insn.invariant.at) edge in
    let within : target < total_slots c.args.code.now = up.within in
    omega arith

pub mark_edges-requires-clause-not_negative : goal.mark_edges-requires-clause-not_negative
mark_edges-requires-clause-not_negative c = no_negative_target _ _ _ (c.requires.edges c.loop-insn.slot) (instruction_here _ _ _ _ c.loop-insn-test.true c.loop-insn.invariant.at)

pub loop-insn-preserved : goal.loop-insn-preserved
loop-insn-preserved c = record {
  at = rw c.slot_count.ensures.count (next_at _ _ _ _ c.loop-insn-test.true c.loop-insn.invariant.at);
  so_far = rw c.slot_count.ensures.count (reached_next _ _ _ _ _ _ (instruction_here _ _ _ _ c.loop-insn-test.true c.loop-insn.invariant.at) c.if-not-reached-slot.false c.mark_edges.ensures (search rules)
      (λ k after before. none_inside _ _ _ _ k c.loop-insn-test.true c.loop-insn.invariant.at after before) c.loop-insn.invariant.so_far);
}

pub returns-clause-shape : goal.returns-clause-shape
returns-clause-shape c = all_reachable _ _ _ c.requires.edges (whole_at _ _ _ c.loop-insn-test.false c.loop-insn.invariant.at) c.loop-insn.invariant.so_far
