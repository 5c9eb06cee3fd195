use Rattle.std.proofs.Common.{◌≡◌, ◌∙◌, sym, refl}
use Rattle.control.specs.Controlling.{AreUp}
use Rattle.control.proofs.Backends.{up_without, found_below}
use Rattle.control.proofs.controller.Controller.take_down.Goals as goal

pub change_up-requires-clause-up : goal.change_up-requires-clause-up
change_up-requires-clause-up g c =
    let are : AreUp c.args.self.now.size c.self.inside.up.items = rw (← c.self.view_is) c.self.invariant.are_up in
    rw (c.in_ok-up.ensures, c.deref-2.ensures.value) (up_without c.args.self.now.size c.self.inside.up.items c.args.number are)

pub change_up-requires-clause-first : goal.change_up-requires-clause-first
change_up-requires-clause-first g c =
    found_below c.self.inside.size c.args.number c.deref.result.now c.in-Some.known (rw c.deref.ensures.value c.self.invariant.are_up) (sym c.backend_of.ensures ∙ c.in-Some.is)
