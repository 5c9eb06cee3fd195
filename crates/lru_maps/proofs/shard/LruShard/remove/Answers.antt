use Rattle.std.proofs.Common.{◌<◌, ◌∙◌, length, sym, ap, arith}
use Rattle.std.proofs.lemmas.List.{get_or_read}
use Rattle.lru_maps.specs.Recency.{order_of}
use Rattle.lru_maps.specs.Numbered.{lru_table}
use Rattle.lru_maps.proofs.Shards.{found_cell, absent_cell, unremoved_table, unremoved_same, unremoved_shard, removed_table, removed_shard, some_count}
use Rattle.lru_maps.proofs.shard.LruShard.remove.Goals as goal

pub overflow_sub-self : goal.overflow_sub-self
overflow_sub-self c =
    let inside = c.self.inside in
    let some : 0 < inside.count = some_count inside.index inside.ids.items (order_of inside.recency.cache.entries) inside.count c.self.invariant c.keys_and_numbers.ensures.inverse c.keys_and_numbers.ensures.small c.remove-removed.new.self c.keys_and_numbers-2.ensures.inverse c.remove-removed.ensures.shape.0 c.remove-removed.ensures.shape.1 c.args.key.now c.remove-removed.ensures.lookups c.in-Some.number (sym c.in-Some.ensures.value) c.numbers_differ.ensures in
    omega (arith, some)

pub invariant_of-self : goal.invariant_of-self
invariant_of-self c =
    let inside = c.self.inside in
    rw c.release.ensures.order (removed_shard inside.index inside.ids.items (order_of inside.recency.cache.entries) inside.count c.self.invariant c.keys_and_numbers.ensures.inverse c.keys_and_numbers.ensures.small c.remove-removed.new.self c.keys_and_numbers-2.ensures.inverse c.remove-removed.ensures.shape.0 c.remove-removed.ensures.shape.1 c.args.key.now c.remove-removed.ensures.lookups c.in-Some.number (sym c.in-Some.ensures.value) c.numbers_differ.ensures)

pub invariant_of-self-in-None : goal.invariant_of-self-in-None
invariant_of-self-in-None c =
    let inside = c.self.inside in
    unremoved_shard inside.index inside.ids.items (order_of inside.recency.cache.entries) inside.count c.self.invariant c.keys_and_numbers.ensures.inverse c.keys_and_numbers.ensures.small c.remove-removed.new.self c.keys_and_numbers-2.ensures.inverse c.remove-removed.ensures.shape.0 c.remove-removed.ensures.shape.1 c.args.key.now c.remove-removed.ensures.lookups (sym c.in-None.ensures.value)

pub returns-in-Some-clause-cell : goal.returns-in-Some-clause-cell
returns-in-Some-clause-cell c =
    let inside = c.self.inside in
    let lt : c.in-Some.number < length inside.ids.items = omega (arith, c.in-Some.ensures.within, c.self.invariant.id_count) in
    rw (← c.self.view_is, get_or_read inside.ids.items c.in-Some.number c.index.result.now lt c.index.ensures 0) (sym (found_cell inside.index inside.ids.items (order_of inside.recency.cache.entries) inside.count c.self.invariant c.keys_and_numbers.ensures.inverse c.keys_and_numbers.ensures.small c.args.key.now c.in-Some.number (sym c.in-Some.ensures.value)))

pub returns-in-Some-clause-table : goal.returns-in-Some-clause-table
returns-in-Some-clause-table c =
    let inside = c.self.inside in
    rw (← c.self.view_is) (ap (lru_table c.remove-removed.new.self inside.ids.items) c.release.ensures.order ∙ removed_table inside.index inside.ids.items (order_of inside.recency.cache.entries) inside.count c.self.invariant c.keys_and_numbers.ensures.inverse c.keys_and_numbers.ensures.small c.remove-removed.new.self c.keys_and_numbers-2.ensures.inverse c.remove-removed.ensures.shape.0 c.remove-removed.ensures.shape.1 c.args.key.now c.remove-removed.ensures.lookups c.in-Some.number (sym c.in-Some.ensures.value) c.numbers_differ.ensures)

pub returns-in-None-clause-cell : goal.returns-in-None-clause-cell
returns-in-None-clause-cell c =
    let inside = c.self.inside in
    rw (← c.self.view_is) (sym (absent_cell inside.index inside.ids.items (order_of inside.recency.cache.entries) inside.count c.self.invariant c.keys_and_numbers.ensures.inverse c.keys_and_numbers.ensures.small c.args.key.now (sym c.in-None.ensures.value)))

pub returns-in-None-clause-table : goal.returns-in-None-clause-table
returns-in-None-clause-table c =
    let inside = c.self.inside in
    rw (← c.self.view_is) (unremoved_table inside.index inside.ids.items (order_of inside.recency.cache.entries) inside.count c.self.invariant c.keys_and_numbers.ensures.inverse c.keys_and_numbers.ensures.small c.remove-removed.new.self c.keys_and_numbers-2.ensures.inverse c.remove-removed.ensures.shape.0 c.remove-removed.ensures.shape.1 c.args.key.now c.remove-removed.ensures.lookups (sym c.in-None.ensures.value))

pub returns-in-None-clause-unchanged : goal.returns-in-None-clause-unchanged
returns-in-None-clause-unchanged c =
    let inside = c.self.inside in
    λ none. rw (← c.self.view_is) (unremoved_same inside.index inside.ids.items (order_of inside.recency.cache.entries) inside.count c.self.invariant c.keys_and_numbers.ensures.inverse c.keys_and_numbers.ensures.small c.remove-removed.new.self c.keys_and_numbers-2.ensures.inverse c.remove-removed.ensures.shape.0 c.remove-removed.ensures.shape.1 c.args.key.now c.remove-removed.ensures.lookups (sym c.in-None.ensures.value))
