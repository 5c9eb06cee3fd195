use Rattle.std.proofs.Common.{◌<◌, length, arith}
use Rattle.std.proofs.lemmas.List.{get_or_read}
use Rattle.plain_maps.proofs.Tables.{found_cell, absent_cell}
use Rattle.plain_maps.proofs.hash.HashShard.find.Goals as goal

pub returns-in-Some : goal.returns-in-Some
returns-in-Some c =
    let inside = c.self.inside in
    let small : c.in-Some.number < length inside.ids.items = omega (arith, c.in-Some.ensures.within, c.self.invariant.id_count) in
    rw (← c.self.view_is) (found_cell inside.index inside.ids.items c.args.key.now c.in-Some.number c.index.result.now c.in-Some.ensures.number (get_or_read inside.ids.items c.in-Some.number c.index.result.now small c.index.ensures 0))

pub returns-in-None : goal.returns-in-None
returns-in-None c = rw (← c.self.view_is) (absent_cell c.self.inside.index c.self.inside.ids.items c.args.key.now c.in-None.ensures.number)
