use Rattle.std.proofs.Common.{◌<◌, length, arith}
use Rattle.std.proofs.lemmas.List.{get_or_read}
use Rattle.plain_maps.proofs.Tables.{cells_removed, found_cell, absent_cell}
use Rattle.plain_maps.proofs.hash.HashShard.remove.Goals as goal

pub returns-in-Some-clause-cell : goal.returns-in-Some-clause-cell
returns-in-Some-clause-cell c =
    let inside = c.self.inside in
    let small : c.in-Some.number < length inside.ids.items = omega (arith, c.in-Some.ensures.within, c.self.invariant.id_count) in
    rw (← c.self.view_is) (found_cell inside.index inside.ids.items c.args.key.now c.in-Some.number c.index.result.now c.in-Some.ensures.value (get_or_read inside.ids.items c.in-Some.number c.index.result.now small c.index.ensures 0))

pub returns-in-Some-clause-cells : goal.returns-in-Some-clause-cells
returns-in-Some-clause-cells c = rw (← c.self.view_is) (cells_removed c.self.inside.index c.remove.new.self c.self.inside.ids.items c.args.key.now c.in-Some.ensures.lookups)

pub returns-in-None-clause-cell : goal.returns-in-None-clause-cell
returns-in-None-clause-cell c = rw (← c.self.view_is) (absent_cell c.self.inside.index c.self.inside.ids.items c.args.key.now c.in-None.ensures.value)

pub returns-in-None-clause-cells : goal.returns-in-None-clause-cells
returns-in-None-clause-cells c = rw (← c.self.view_is) (cells_removed c.self.inside.index c.remove.new.self c.self.inside.ids.items c.args.key.now c.in-None.ensures.lookups)
