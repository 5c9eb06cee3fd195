use Rattle.std.proofs.Common.{◌<◌, ◌∙◌, ap, arith, set}
use Rattle.lru_maps.specs.Recency.{order_of}
use Rattle.lru_maps.specs.Numbered.{lru_table}
use Rattle.lru_maps.proofs.Uses.{stands_last}
use Rattle.lru_maps.proofs.Shards.{absent_entry, last_small, last_unused, inserted_table, inserted_shard}
use Rattle.lru_maps.proofs.shard.LruShard.insert.Goals as goal

pub insert-requires-clause-absent : goal.insert-requires-clause-absent
insert-requires-clause-absent c =
    let inside = c.self.inside in
    absent_entry inside.index inside.ids.items (order_of inside.recency.cache.entries) inside.count c.self.invariant c.keys_and_numbers.ensures.inverse c.keys_and_numbers.ensures.small c.args.key.now (rw (← c.self.view_is) at c.requires.absent)

pub insert-requires-clause-number : goal.insert-requires-clause-number
insert-requires-clause-number c =
    let inside = c.self.inside in
    last_small inside.index inside.ids.items (order_of inside.recency.cache.entries) inside.count c.self.invariant c.keys_and_numbers.ensures.inverse c.keys_and_numbers.ensures.small c.in-Some.number (stands_last inside.recency.cache.entries c.in-Some.number c.in-Some.ensures.last)

pub insert-requires-clause-unused : goal.insert-requires-clause-unused
insert-requires-clause-unused c =
    let inside = c.self.inside in
    let room : inside.count < inside.index.capacity = (let less = rw (← c.self.view_is) at c.requires.room in omega (arith, less, c.self.invariant.counted)) in
    last_unused inside.index inside.ids.items (order_of inside.recency.cache.entries) inside.count c.self.invariant c.keys_and_numbers.ensures.inverse c.keys_and_numbers.ensures.small c.in-Some.number (stands_last inside.recency.cache.entries c.in-Some.number c.in-Some.ensures.last) room

pub index_mut-requires : goal.index_mut-requires
index_mut-requires c =
    let inside = c.self.inside in
    let lt = last_small inside.index inside.ids.items (order_of inside.recency.cache.entries) inside.count c.self.invariant c.keys_and_numbers.ensures.inverse c.keys_and_numbers.ensures.small c.in-Some.number (stands_last inside.recency.cache.entries c.in-Some.number c.in-Some.ensures.last) in
    omega (arith, lt, c.self.invariant.id_count)

pub invariant_of-self : goal.invariant_of-self
invariant_of-self c =
    let inside = c.self.inside in
    let absent = absent_entry inside.index inside.ids.items (order_of inside.recency.cache.entries) inside.count c.self.invariant c.keys_and_numbers.ensures.inverse c.keys_and_numbers.ensures.small c.args.key.now (rw (← c.self.view_is) at c.requires.absent) in
    let room : inside.count < inside.index.capacity = (let less = rw (← c.self.view_is) at c.requires.room in omega (arith, less, c.self.invariant.counted)) in
    rw c.touch.ensures.order (inserted_shard inside.index inside.ids.items (order_of inside.recency.cache.entries) inside.count c.self.invariant c.keys_and_numbers.ensures.inverse c.keys_and_numbers.ensures.small c.insert.new.self c.keys_and_numbers-2.ensures.inverse c.insert.ensures.shape.0 c.insert.ensures.shape.1 c.args.key.now c.in-Some.number c.args.id c.numbers_differ.ensures (stands_last inside.recency.cache.entries c.in-Some.number c.in-Some.ensures.last) room absent c.insert.ensures.lookups)

pub returns : goal.returns
returns c =
    let inside = c.self.inside in
    let absent = absent_entry inside.index inside.ids.items (order_of inside.recency.cache.entries) inside.count c.self.invariant c.keys_and_numbers.ensures.inverse c.keys_and_numbers.ensures.small c.args.key.now (rw (← c.self.view_is) at c.requires.absent) in
    let room : inside.count < inside.index.capacity = (let less = rw (← c.self.view_is) at c.requires.room in omega (arith, less, c.self.invariant.counted)) in
    rw (← c.self.view_is) (ap (lru_table c.insert.new.self (set inside.ids.items c.in-Some.number c.args.id)) c.touch.ensures.order ∙ inserted_table inside.index inside.ids.items (order_of inside.recency.cache.entries) inside.count c.self.invariant c.keys_and_numbers.ensures.inverse c.keys_and_numbers.ensures.small c.insert.new.self c.keys_and_numbers-2.ensures.inverse c.insert.ensures.shape.0 c.insert.ensures.shape.1 c.args.key.now c.in-Some.number c.args.id c.numbers_differ.ensures (stands_last inside.recency.cache.entries c.in-Some.number c.in-Some.ensures.last) room absent c.insert.ensures.lookups)
