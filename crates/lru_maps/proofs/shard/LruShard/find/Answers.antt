use Rattle.std.proofs.Common.{◌<◌, length, sym, arith}
use Rattle.std.proofs.lemmas.List.{get_or_read}
use Rattle.lru_maps.specs.Recency.{order_of}
use Rattle.lru_maps.proofs.Shards.{found_cell, absent_cell}
use Rattle.lru_maps.proofs.shard.LruShard.find.Goals as goal

pub returns-in-Some : goal.returns-in-Some
returns-in-Some c =
    let inside = c.self.inside in
    let lt : c.in-Some.number < length inside.ids.items = omega (arith, c.in-Some.ensures.within, c.self.invariant.id_count) in
    rw (← c.self.view_is, get_or_read inside.ids.items c.in-Some.number c.index.result.now lt c.index.ensures 0) (sym (found_cell inside.index inside.ids.items (order_of inside.recency.cache.entries) inside.count c.self.invariant c.keys_and_numbers.ensures.inverse c.keys_and_numbers.ensures.small c.args.key.now c.in-Some.number (sym c.in-Some.ensures.number)))

pub returns-in-None : goal.returns-in-None
returns-in-None c =
    let inside = c.self.inside in
    rw (← c.self.view_is) (sym (absent_cell inside.index inside.ids.items (order_of inside.recency.cache.entries) inside.count c.self.invariant c.keys_and_numbers.ensures.inverse c.keys_and_numbers.ensures.small c.args.key.now (sym c.in-None.ensures.number)))
