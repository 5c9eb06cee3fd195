use Rattle.std.proofs.Common.{◌≡◌, ◌<◌, Some, length, arith}
use Rattle.std.proofs.lemmas.List.{get_or_read}
use Rattle.plain_maps.specs.Keyed.{entry_number_of}
use Rattle.lru_maps.specs.Recency.{order_of}
use Rattle.lru_maps.proofs.Uses.{stands_last}
use Rattle.lru_maps.proofs.Shards.{last_key, last_small, evicted_table, evicted_cell, evicted_count, evicted_absent, evicted_shard}
use Rattle.lru_maps.proofs.shard.LruShard.evict.Goals as goal

pub key-requires : goal.key-requires
key-requires c =
    let inside = c.self.inside in
    let full : inside.count ≡ inside.index.capacity = (let whole = rw (← c.self.view_is) at c.requires in omega (arith, whole, c.self.invariant.counted)) in
    last_key inside.index inside.ids.items (order_of inside.recency.cache.entries) inside.count c.self.invariant c.keys_and_numbers.ensures.inverse c.keys_and_numbers.ensures.small c.in-Some.number (stands_last inside.recency.cache.entries c.in-Some.number c.in-Some.ensures.last) full

pub invariant_of-self : goal.invariant_of-self
invariant_of-self c =
    let inside = c.self.inside in
    let full : inside.count ≡ inside.index.capacity = (let whole = rw (← c.self.view_is) at c.requires in omega (arith, whole, c.self.invariant.counted)) in
    let found : entry_number_of inside.index c.as_slice.result.now ≡ Some c.in-Some.number = rw (c.as_slice.ensures.bytes, c.in-Some-of.ensures.bytes) c.key.ensures.key in
    evicted_shard inside.index inside.ids.items (order_of inside.recency.cache.entries) inside.count c.self.invariant c.keys_and_numbers.ensures.inverse c.keys_and_numbers.ensures.small c.remove.new.self c.keys_and_numbers-2.ensures.inverse c.remove.ensures.shape.0 c.remove.ensures.shape.1 c.as_slice.result.now c.remove.ensures.lookups c.in-Some.number found c.numbers_differ.ensures (stands_last inside.recency.cache.entries c.in-Some.number c.in-Some.ensures.last) full

pub returns-clause-cell : goal.returns-clause-cell
returns-clause-cell c =
    let inside = c.self.inside in
    let full : inside.count ≡ inside.index.capacity = (let whole = rw (← c.self.view_is) at c.requires in omega (arith, whole, c.self.invariant.counted)) in
    let found : entry_number_of inside.index c.as_slice.result.now ≡ Some c.in-Some.number = rw (c.as_slice.ensures.bytes, c.in-Some-of.ensures.bytes) c.key.ensures.key in
    let small = last_small inside.index inside.ids.items (order_of inside.recency.cache.entries) inside.count c.self.invariant c.keys_and_numbers.ensures.inverse c.keys_and_numbers.ensures.small c.in-Some.number (stands_last inside.recency.cache.entries c.in-Some.number c.in-Some.ensures.last) in
    let lt : c.in-Some.number < length inside.ids.items = omega (arith, small, c.self.invariant.id_count) in
    rw (← c.self.view_is, get_or_read inside.ids.items c.in-Some.number c.index.result.now lt c.index.ensures 0) (evicted_cell inside.index inside.ids.items (order_of inside.recency.cache.entries) inside.count c.self.invariant c.keys_and_numbers.ensures.inverse c.keys_and_numbers.ensures.small c.remove.new.self c.keys_and_numbers-2.ensures.inverse c.remove.ensures.shape.0 c.remove.ensures.shape.1 c.as_slice.result.now c.remove.ensures.lookups c.in-Some.number found c.numbers_differ.ensures (stands_last inside.recency.cache.entries c.in-Some.number c.in-Some.ensures.last) full)

pub returns-clause-table : goal.returns-clause-table
returns-clause-table c =
    let inside = c.self.inside in
    let full : inside.count ≡ inside.index.capacity = (let whole = rw (← c.self.view_is) at c.requires in omega (arith, whole, c.self.invariant.counted)) in
    let found : entry_number_of inside.index c.as_slice.result.now ≡ Some c.in-Some.number = rw (c.as_slice.ensures.bytes, c.in-Some-of.ensures.bytes) c.key.ensures.key in
    rw (← c.self.view_is) (evicted_table inside.index inside.ids.items (order_of inside.recency.cache.entries) inside.count c.self.invariant c.keys_and_numbers.ensures.inverse c.keys_and_numbers.ensures.small c.remove.new.self c.keys_and_numbers-2.ensures.inverse c.remove.ensures.shape.0 c.remove.ensures.shape.1 c.as_slice.result.now c.remove.ensures.lookups c.in-Some.number found c.numbers_differ.ensures (stands_last inside.recency.cache.entries c.in-Some.number c.in-Some.ensures.last) full)

pub returns-clause-count : goal.returns-clause-count
returns-clause-count c =
    let inside = c.self.inside in
    let full : inside.count ≡ inside.index.capacity = (let whole = rw (← c.self.view_is) at c.requires in omega (arith, whole, c.self.invariant.counted)) in
    let found : entry_number_of inside.index c.as_slice.result.now ≡ Some c.in-Some.number = rw (c.as_slice.ensures.bytes, c.in-Some-of.ensures.bytes) c.key.ensures.key in
    rw (← c.self.view_is) (evicted_count inside.index inside.ids.items (order_of inside.recency.cache.entries) inside.count c.self.invariant c.keys_and_numbers.ensures.inverse c.keys_and_numbers.ensures.small c.remove.new.self c.keys_and_numbers-2.ensures.inverse c.remove.ensures.shape.0 c.remove.ensures.shape.1 c.as_slice.result.now c.remove.ensures.lookups c.in-Some.number found c.numbers_differ.ensures (stands_last inside.recency.cache.entries c.in-Some.number c.in-Some.ensures.last) full)

pub returns-clause-absent : goal.returns-clause-absent
returns-clause-absent c =
    let inside = c.self.inside in
    let full : inside.count ≡ inside.index.capacity = (let whole = rw (← c.self.view_is) at c.requires in omega (arith, whole, c.self.invariant.counted)) in
    let found : entry_number_of inside.index c.as_slice.result.now ≡ Some c.in-Some.number = rw (c.as_slice.ensures.bytes, c.in-Some-of.ensures.bytes) c.key.ensures.key in
    rw (← c.self.view_is) (evicted_absent inside.index inside.ids.items (order_of inside.recency.cache.entries) inside.count c.self.invariant c.keys_and_numbers.ensures.inverse c.keys_and_numbers.ensures.small c.remove.new.self c.keys_and_numbers-2.ensures.inverse c.remove.ensures.shape.0 c.remove.ensures.shape.1 c.as_slice.result.now c.remove.ensures.lookups c.in-Some.number found c.numbers_differ.ensures (stands_last inside.recency.cache.entries c.in-Some.number c.in-Some.ensures.last) full)
