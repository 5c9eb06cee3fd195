use Rattle.std.proofs.Common.{◌≡◌, map, take}
use Rattle.map_cells.specs.CellTable.{bytes_of_id}
use Rattle.plain_maps.specs.Listed.{read_entry}
use Rattle.shard_core.proofs.listing.with_values.Given as goal

abbrev pub invariant-keys : goal.invariant-keys
invariant-keys l = l.entries.items ≡ map (read_entry (bytes_of_id l.cells)) (take l.entry-index l.keys)
