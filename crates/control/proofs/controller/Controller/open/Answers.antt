use Rattle.std.proofs.Common.{refl, rules}
use Rattle.control.proofs.Backends.{none_up}
use Rattle.control.proofs.controller.Controller.open.Goals as goal

pub invariant_of-result : goal.invariant_of-result
invariant_of-result c = rw c.new.ensures.items (record { ring_size = search rules; are_up = none_up c.args.size; table = refl })
