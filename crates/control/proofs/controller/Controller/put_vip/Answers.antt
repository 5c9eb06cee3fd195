use Rattle.std.proofs.Common.{◌≡◌, ◌∙◌, sym, inr, refl, rules}
use Rattle.std.specs.Int.{w32}
use Rattle.std.specs.Prelude.{pos}
use Rattle.conntrack.specs.declared.records.VipRecord.{VipRecord}
use Rattle.control.specs.declared.update.Update.TheVariants.{Vip}
use Rattle.control.proofs.Updates.{done_alone, stopped_alone}
use Rattle.std.proofs.lemmas.Int.{to_z-of_z}
use Rattle.control.proofs.controller.Controller.put_vip.Goals as goal

pub returns-else-not-is_done-clause-done : goal.returns-else-not-is_done-clause-done
returns-else-not-is_done-clause-done g c = done_alone g.U.UpdatePort.gives c.args.self.now c.args.port.now c.make.new.port (Vip c.args.service (record { is_notrack = c.args.is_notrack })) c.requires.not_full (rw (← c.self.view_is) c.self.invariant.table) (let zero : c.in-Ok.answer ≡ pos 0 = sym (to_z-of_z w32 c.in-Ok.answer (search rules)) ∙ c.is_done.ensures.0 c.if-not-is_done.false in rw zero at c.in-Ok.ensures.gives)

pub returns-in-Err-clause-left : goal.returns-in-Err-clause-left
returns-in-Err-clause-left g c = inr (stopped_alone g.U.UpdatePort.gives g.U.UpdatePort.refuses c.args.self.now c.args.port.now c.make.new.port (Vip c.args.service (record { is_notrack = c.args.is_notrack })) _ c.requires.not_full (rw (← c.self.view_is) c.self.invariant.table) (rw (← c.self.view_is) refl) c.in-Err.ensures.refuses)
