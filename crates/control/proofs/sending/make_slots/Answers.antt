use Rattle.std.proofs.Common.{refl}
use Rattle.control.proofs.Updates.{made_step, cut_in_slots}
use Rattle.control.proofs.sending.make_slots.Goals as goal

pub slots-preserved : goal.slots-preserved
slots-preserved g c = (
  c.in-Ok.ensures.serves,
  made_step g.U.UpdatePort.gives c.args.port.now c.slots.port c.make_in_array.new.port c.args.slots.now c.slots.slot-index _ c.slots-test.true c.slots.invariant.1 (rw c.slot_update.ensures at c.in-Ok.ensures.gives),
)

pub returns-in-Err-clause-cut : goal.returns-in-Err-clause-cut
returns-in-Err-clause-cut g c =
    cut_in_slots g.U.UpdatePort.gives g.U.UpdatePort.refuses c.args.port.now c.slots.port c.make_in_array.new.port c.args.slots.now c.slots.slot-index _ c.slots-test.true c.slots.invariant.1 (rw c.slot_update.ensures at c.in-Err.ensures.refuses)
