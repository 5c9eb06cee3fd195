use Rattle.std.proofs.Common.{◌≡◌, ℕ, List, reverse, map, sym, subst}
use Rattle.std.specs.Prelude.{option_map}
use Rattle.semantics.specs.SequentialShard.{shard_after}
use Rattle.map_cells.specs.CellTable.{bytes_of_id}
use Rattle.plain_maps.specs.Listed.{ListsAll, read_entry}
use Rattle.plain_maps.proofs.shared.Listing.{lists_read, lists_as}
use Rattle.shard_core.specs.KeyTables.{cell_there}
use Rattle.shard_core.specs.Listing.{value_of_key}
use Rattle.shard_core.proofs.ListingLemmas.{value_is, all_kept}
use Rattle.shard_core.proofs.shard.Shard.contents.Goals as goal

pub with_values-requires-clause-kept : goal.with_values-requires-clause-kept
with_values-requires-clause-kept c =
    let inside = c.self.inside in
    rw c.deref.ensures.value (all_kept inside.plan (reverse inside.journal.entries) inside.cells inside.keys c.self.invariant.plan_is c.self.invariant.legal c.self.invariant.contents c.in_ok-keys.keys.items c.in_ok-keys.ensures)

pub returns : goal.returns
returns c =
    let inside = c.self.inside in
    let history = reverse inside.journal.entries in
    let lists = lists_read (bytes_of_id inside.cells) (cell_there inside.keys inside.plan.part) c.in_ok-keys.keys.items c.in_ok-keys.ensures in
    let entries_are : c.in_ok-entries.entries.items ≡ map (read_entry (bytes_of_id inside.cells)) c.in_ok-keys.keys.items = rw c.deref.ensures.value at c.in_ok-entries.ensures in
    let all = subst (λ (entries : List (List ℕ × List ℕ)). ListsAll (value_of_key inside.plan (shard_after inside.plan history)) entries) (sym entries_are)
    (lists_as (λ key. option_map (bytes_of_id inside.cells) (cell_there inside.keys inside.plan.part key)) (value_of_key inside.plan (shard_after inside.plan history)) _
    (value_is inside.plan history inside.cells inside.keys c.self.invariant.plan_is c.self.invariant.legal c.self.invariant.contents) lists) in
    rw (← c.self.view_is) (c.in_order.ensures (value_of_key inside.plan (shard_after inside.plan history)) all)
