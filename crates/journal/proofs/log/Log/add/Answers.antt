use Rattle.std.proofs.Common.{◌++◌, ◌∷◌, [], refl}
use Rattle.atomic_table.specs.Table.{keeps}
use Rattle.journal.proofs.log.Log.add.Goals as goal

pub load-requires : goal.load-requires
load-requires g c =
    (c.self.invariant.0, c.self.invariant.1, λ s holds homes at below. (c.self.inside.seat.me.0 ++ g.D.LogItem.item ∷ [], keeps, tt, tt, refl))
