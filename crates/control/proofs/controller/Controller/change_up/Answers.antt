use Rattle.std.proofs.Common.{◌≤◌, refl, arith}
use Rattle.control.proofs.Backends.{few_slots}
use Rattle.control.proofs.Updates.{served_slots}
use Rattle.control.proofs.controller.Controller.change_up.Goals as goal

pub make_all-requires-clause-slots : goal.make_all-requires-clause-slots
make_all-requires-clause-slots g c =
    rw (c.deref-2.ensures.value, c.in_ok-slots.ensures)
    (served_slots c.self.inside.size c.owners.result.now c.owners-2.result.now (few_slots c.self.inside.size c.self.invariant.ring_size) (rw c.owners-2.ensures c.in_ok-ring.ensures.numbers) c.self.inside.size (omega arith))
