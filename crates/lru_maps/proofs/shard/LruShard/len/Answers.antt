use Rattle.std.proofs.Common.{arith}
use Rattle.plain_maps.specs.Keyed.{key_of_number}
use Rattle.lru_maps.specs.Recency.{order_of}
use Rattle.lru_maps.specs.Numbered.{id_at}
use Rattle.lru_maps.proofs.Orders.{at_most}
use Rattle.lru_maps.proofs.shard.LruShard.len.Goals as goal

pub returns-clause-within : goal.returns-clause-within
returns-clause-within c =
    let inside = c.self.inside in
    let order = order_of inside.recency.cache.entries in
    let few = at_most (key_of_number inside.index) (id_at inside.ids.items) (order_of inside.recency.cache.entries) in
    rw (← c.self.view_is) (omega (arith, few, c.self.invariant.number_count))
