use Rattle.std.proofs.Common.{inr, refl, rules}
use Rattle.control.proofs.Updates.{done_alone, stopped_alone}
use Rattle.control.proofs.controller.Controller.put_tunnel.Goals as goal

pub returns-in-Ok-clause-done : goal.returns-in-Ok-clause-done
returns-in-Ok-clause-done g c = done_alone g.U.UpdatePort.gives c.args.self.now c.args.port.now c.make_in_array.new.port _ c.requires.not_full (rw (← c.self.view_is) c.self.invariant.table) c.in-Ok.ensures.gives

pub returns-in-Err-clause-left : goal.returns-in-Err-clause-left
returns-in-Err-clause-left g c = inr (stopped_alone g.U.UpdatePort.gives g.U.UpdatePort.refuses c.args.self.now c.args.port.now c.make_in_array.new.port _ _ c.requires.not_full (rw (← c.self.view_is) c.self.invariant.table) (rw (← c.self.view_is) refl) c.in-Err.ensures.refuses)
