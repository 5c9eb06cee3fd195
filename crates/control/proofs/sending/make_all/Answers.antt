use Rattle.control.specs.RingChanges.{slot_updates}
use Rattle.control.proofs.Updates.{cut_at_once, cut_later}
use Rattle.control.proofs.sending.make_all.Goals as goal

pub returns-in-Err-clause-cut : goal.returns-in-Err-clause-cut
returns-in-Err-clause-cut g c = cut_at_once g.U.UpdatePort.gives g.U.UpdatePort.refuses c.args.port.now c.make_in_array.new.port c.args.first (slot_updates c.args.slots.now) c.in-Err.ensures.refuses

pub returns-in-Err-make_slots-clause-cut : goal.returns-in-Err-make_slots-clause-cut
returns-in-Err-make_slots-clause-cut g c = cut_later g.U.UpdatePort.gives g.U.UpdatePort.refuses c.args.port.now c.make_in_array.new.port c.make_slots.new.port c.args.first (slot_updates c.args.slots.now) c.in-Ok.ensures.gives c.in-Err-make_slots.ensures.cut
