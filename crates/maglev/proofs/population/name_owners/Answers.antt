use Rattle.std.proofs.Common.{arith}
use Rattle.maglev.proofs.Naming.{owners_of-more}
use Rattle.maglev.proofs.population.name_owners.Goals as goal

pub slots-preserved : goal.slots-preserved
slots-preserved c =
    owners_of-more c.args.backends.now.items c.args.table.now.items c.slots.owner-items c.slots.owner-index c.index.result.now
    (omega arith) (omega arith) c.requires c.slots.invariant c.index.ensures
