use Rattle.std.proofs.Common.{◌≡◌, ◌∙◌, false, sym, refl}
use Rattle.std.specs.List.{list_any}
use Rattle.control.specs.Controlling.{AreUp, has_address}
use Rattle.control.proofs.Backends.{up_with, taken_tests, served_tests}
use Rattle.control.proofs.controller.Controller.take_up.Goals as goal

pub change_up-requires-clause-up : goal.change_up-requires-clause-up
change_up-requires-clause-up g c =
    let served = served_tests c.args.number c.self.inside.size (sym c.is_served_number.ensures ∙ c.if-not-is_served_number.false) in
    let free : list_any (has_address c.args.address) c.deref.result.now ≡ false = taken_tests _ _ (sym c.is_taken.ensures ∙ c.if-is_taken.false) in
    let are : AreUp c.args.self.now.size c.self.inside.up.items = rw (← c.self.view_is) c.self.invariant.are_up in
    rw (c.in_ok-up.ensures, c.deref-2.ensures.value) (up_with c.args.self.now.size c.self.inside.up.items _ are (rw (← c.self.view_is) served.0) served.1 (rw (← c.deref.ensures.value) free))
