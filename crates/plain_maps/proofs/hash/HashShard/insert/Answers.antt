use Rattle.std.proofs.Common.{◌<◌, length, set, arith}
use Rattle.std.proofs.lemmas.List.{length-set}
use Rattle.plain_maps.proofs.Tables.{absent_entry, cells_inserted, table_inserted, last_unused, last_small, with_free}
use Rattle.plain_maps.proofs.hash.HashShard.insert.Goals as goal

pub insert-requires-clause-absent : goal.insert-requires-clause-absent
insert-requires-clause-absent c = absent_entry c.self.inside.index c.self.inside.ids.items c.args.key.now (rw (← c.self.view_is) at c.requires.absent)

pub invariant_of-self : goal.invariant_of-self
invariant_of-self c =
    let inside = c.self.inside in
    let before = with_free inside.index inside.ids.items inside.free.items _ _ c.in-Some.ensures.items c.self.invariant in
    rw c.pop.ensures.capacity (table_inserted inside.index c.insert.new.self inside.ids.items (set inside.ids.items c.in-Some.number c.args.id) c.pop.new.self.items _ c.args.key.now c.in-Some.number before c.insert.ensures.shape.1 c.insert.ensures.count c.insert.ensures.lookups (length-set inside.ids.items c.in-Some.number c.args.id))

pub returns-clause-cells : goal.returns-clause-cells
returns-clause-cells c =
    let inside = c.self.inside in
    let before = with_free inside.index inside.ids.items inside.free.items _ _ c.in-Some.ensures.items c.self.invariant in
    let many = length-set inside.ids.items c.in-Some.number c.args.id in
    let unused = last_unused inside.index c.insert.new.self inside.ids.items (set inside.ids.items c.in-Some.number c.args.id) c.pop.new.self.items _ c.args.key.now c.in-Some.number before c.insert.ensures.shape.1 c.insert.ensures.count c.insert.ensures.lookups many in
    let small = last_small inside.index c.insert.new.self inside.ids.items (set inside.ids.items c.in-Some.number c.args.id) c.pop.new.self.items _ c.args.key.now c.in-Some.number before c.insert.ensures.shape.1 c.insert.ensures.count c.insert.ensures.lookups many in
    let within : c.in-Some.number < length inside.ids.items = omega (arith, small, c.self.invariant.id_count) in
    rw (← c.self.view_is) (cells_inserted inside.index c.insert.new.self inside.ids.items c.args.key.now c.in-Some.number c.args.id within unused c.insert.ensures.lookups)
