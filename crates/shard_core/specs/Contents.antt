-- How cells and keys change together.
use Rattle.std.specs.Prelude.{◌≡◌, ℕ, ◌+◌, ◌-◌, ◌*◌, ◌<◌, IsTrue, Option, Some, None, List, [], length, replicate}
use Rattle.ebpf_decode.specs.declared.map.MapKind.{MapKind}
use Rattle.ebpf_decode.specs.declared.map.MapKind.TheVariants.{Array}
use Rattle.semantics.specs.declared.plan.ShardPlan.{ShardPlan}
use Rattle.semantics.specs.ShardPlan.{capacity}
use Rattle.map_cells.specs.CellTable.{CellTable, empty_table, is_kept_id, with_new_cell, with_bytes, with_retired, IsNotRetired, IsLatestStamp}
use Rattle.shard_core.specs.declared.keys.KeyTable.{KeyTable}
use Rattle.shard_core.specs.Sections.{ReaderEpochs, with_epoch_after}
use Rattle.shard_core.specs.KeyTables.{MayGrow, victim_cell, touched_in, without_victim_in, IsInserted}

-- this many cells of one value, and room for others up to this many places and ids
abbrev pub filled_table : List ℕ → ℕ → ℕ → ℕ → CellTable
filled_table value places ids count = record {
  value_size = length value;
  places = places;
  ids = ids;
  free = places - count;
  cells = replicate count (Some value);
  retired = [];
}

-- the cells of a shard in which nothing has happened
abbrev pub opened_table : MapKind → ShardPlan → CellTable
opened_table Array plan =
    filled_table (replicate plan.definition.value_size 0) (capacity plan) (capacity plan + plan.reserve) (capacity plan)
opened_table kind plan = empty_table plan.definition.value_size (2 * capacity plan) plan.reserve

-- the cell may be retired with this stamp
pub record CanRetire (cells : CellTable) (cell stamp : ℕ) : Type 0 where
  pub kept : IsTrue (is_kept_id cells cell)
  pub once : IsNotRetired cells cell
  pub room : length cells.retired < cells.places
  pub latest : IsLatestStamp cells stamp

-- there may be one more key, and a cell for it; the key that goes for it, if any, can be retired with this stamp
pub record CanCreate (cells : CellTable) (keys : KeyTable) (stamp : ℕ) : Type 0 where
  pub free : 0 < cells.free
  pub ids : length cells.cells < cells.ids
  pub room : MayGrow keys
  pub victim : (cell : ℕ) → victim_cell keys ≡ Some cell → CanRetire cells cell stamp

-- a cell waits for its readers with this stamp, if there is one
abbrev pub with_evicted : Option ℕ → ℕ → CellTable → CellTable
with_evicted (Some cell) stamp cells = with_retired cells cell stamp
with_evicted None stamp cells = cells

-- the value is in the cell that the key had, or in a new one that it has now, and the key was used
abbrev pub IsPut : Option ℕ → List ℕ → List ℕ → CellTable → KeyTable → ReaderEpochs → CellTable → KeyTable → ReaderEpochs → Type 0
IsPut (Some cell) key value cells keys readers cells_after keys_after readers_after =
    (cells_after ≡ with_bytes cells cell value) × (keys_after ≡ touched_in key keys) × (readers_after ≡ readers)
IsPut None key value cells keys readers cells_after keys_after readers_after =
    (cells_after ≡ with_new_cell (with_evicted (victim_cell keys) readers.present cells) value)
    × IsInserted key (length cells.cells) (without_victim_in keys) keys_after
    × (readers_after ≡ with_epoch_after (victim_cell keys) readers)
