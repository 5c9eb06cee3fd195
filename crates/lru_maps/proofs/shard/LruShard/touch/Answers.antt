use Rattle.std.proofs.Common.{◌<◌, ◌∙◌, length, sym, ap, arith}
use Rattle.std.proofs.lemmas.List.{get_or_read}
use Rattle.lru_maps.specs.Recency.{order_of}
use Rattle.lru_maps.specs.Numbered.{lru_table}
use Rattle.lru_maps.proofs.Shards.{found_cell, absent_cell, touched_table, untouched_table, touched_shard}
use Rattle.lru_maps.proofs.shard.LruShard.touch.Goals as goal

pub invariant_of-self : goal.invariant_of-self
invariant_of-self c =
    let inside = c.self.inside in
    rw c.touch.ensures.order (touched_shard inside.index inside.ids.items (order_of inside.recency.cache.entries) inside.count c.self.invariant c.keys_and_numbers.ensures.inverse c.keys_and_numbers.ensures.small c.args.key.now c.in-Some.number (sym c.in-Some.ensures.number))

pub returns-in-Some-clause-cell : goal.returns-in-Some-clause-cell
returns-in-Some-clause-cell c =
    let inside = c.self.inside in
    let lt : c.in-Some.number < length inside.ids.items = omega (arith, c.in-Some.ensures.within, c.self.invariant.id_count) in
    rw (← c.self.view_is, get_or_read inside.ids.items c.in-Some.number c.index.result.now lt c.index.ensures 0) (sym (found_cell inside.index inside.ids.items (order_of inside.recency.cache.entries) inside.count c.self.invariant c.keys_and_numbers.ensures.inverse c.keys_and_numbers.ensures.small c.args.key.now c.in-Some.number (sym c.in-Some.ensures.number)))

pub returns-in-Some-clause-table : goal.returns-in-Some-clause-table
returns-in-Some-clause-table c =
    let inside = c.self.inside in
    rw (← c.self.view_is) (ap (lru_table inside.index inside.ids.items) c.touch.ensures.order ∙ touched_table inside.index inside.ids.items (order_of inside.recency.cache.entries) inside.count c.self.invariant c.keys_and_numbers.ensures.inverse c.keys_and_numbers.ensures.small c.args.key.now c.in-Some.number (sym c.in-Some.ensures.number))

pub returns-in-None-clause-cell : goal.returns-in-None-clause-cell
returns-in-None-clause-cell c =
    let inside = c.self.inside in
    rw (← c.self.view_is) (sym (absent_cell inside.index inside.ids.items (order_of inside.recency.cache.entries) inside.count c.self.invariant c.keys_and_numbers.ensures.inverse c.keys_and_numbers.ensures.small c.args.key.now (sym c.in-None.ensures.number)))

pub returns-in-None-clause-table : goal.returns-in-None-clause-table
returns-in-None-clause-table c =
    let inside = c.self.inside in
    rw (← c.self.view_is) (untouched_table inside.index inside.ids.items (order_of inside.recency.cache.entries) inside.count c.self.invariant c.keys_and_numbers.ensures.inverse c.keys_and_numbers.ensures.small c.args.key.now (sym c.in-None.ensures.number))
