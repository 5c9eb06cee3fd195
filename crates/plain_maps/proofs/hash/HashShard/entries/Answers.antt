use Rattle.std.proofs.Common.{ℕ, List, sym, ap, ◌∙◌}
use Rattle.plain_maps.specs.HashTable.{cell_of, hash_table}
use Rattle.plain_maps.specs.Listed.{item_of}
use Rattle.plain_maps.proofs.Tables.{cell_by_entry}
use Rattle.plain_maps.proofs.shared.Listing.{lists_as}
use Rattle.plain_maps.proofs.hash.HashShard.entries.Goals as goal

pub returns : goal.returns
returns c =
    let inside = c.self.inside in
    rw (← c.self.view_is) (lists_as (item_of inside.index c.deref.result.now) (cell_of (hash_table inside.index inside.ids.items)) c.in_ok-entries.entries.items
    (λ key. ap (λ (items : List ℕ). item_of inside.index items key) c.deref.ensures.value ∙ sym (cell_by_entry inside.ids.items key inside.index.entries)) c.in_ok-entries.ensures)
