use Rattle.std.proofs.Common.{◌≡◌}
use Rattle.control.specs.Controlling.{IsTable}
use Rattle.control.proofs.Backends.{same_table}
use Rattle.control.proofs.controller.Controller.same_ring.Goals as goal

pub returns : goal.returns
returns c = λ sizes ups.
    let one : IsTable c.args.self.now.size c.args.self.now.up c.args.self.now.owners = rw (← c.self.view_is) c.self.invariant.table in
    let other : IsTable c.args.other.now.size c.args.other.now.up c.args.other.now.owners = rw (← c.other.view_is) c.other.invariant.table in
    same_table c.args.self.now.size c.args.self.now.up c.args.self.now.owners c.args.other.now.owners one (rw (sizes, ups) other)
