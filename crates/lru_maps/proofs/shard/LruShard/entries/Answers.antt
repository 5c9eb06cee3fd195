use Rattle.std.proofs.Common.{ℕ, List, ap, ◌∙◌}
use Rattle.plain_maps.specs.Listed.{item_of}
use Rattle.plain_maps.proofs.shared.Listing.{lists_as}
use Rattle.lru_maps.specs.Recency.{order_of}
use Rattle.lru_maps.specs.LruTable.{cell_of_lru_key}
use Rattle.lru_maps.specs.Numbered.{lru_table}
use Rattle.lru_maps.proofs.Shards.{item_is}
use Rattle.lru_maps.proofs.shard.LruShard.entries.Goals as goal

pub returns : goal.returns
returns c =
    let inside = c.self.inside in
    rw (← c.self.view_is) (lists_as (item_of inside.index c.deref.result.now) (cell_of_lru_key (lru_table inside.index inside.ids.items (order_of inside.recency.cache.entries))) c.in_ok-entries.entries.items
    (λ key. ap (λ (items : List ℕ). item_of inside.index items key) c.deref.ensures.value
    ∙ item_is inside.index inside.ids.items (order_of inside.recency.cache.entries) inside.count c.self.invariant c.keys_and_numbers.ensures.inverse c.keys_and_numbers.ensures.small key) c.in_ok-entries.ensures)
