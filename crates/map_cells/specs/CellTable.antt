-- What a contract sees of a shard's cells: the bytes of each cell that is kept, by its id; and which cells wait for their readers.
use Rattle.std.specs.Prelude.{◌≢◌, ℕ, ◌+◌, ◌-◌, ◌*◌, ◌<◌, ◌≤◌, Bool, not, nat_lt, List, [], ◌∷◌, ◌++◌, length, take, drop, filter}
use Rattle.std.specs.Prelude.{Option, Some, None, is_some, slice_index_or, slice_set}
use Rattle.isa.specs.declared.operation.AtomicOp.{AtomicOp}
use Rattle.isa.specs.Atomic.{atomic_result}
use Rattle.wire.specs.FrameView.{overwritten_at}
use Rattle.semantics.specs.LittleEndian.{number_of_bytes, bytes_of_number}
use Rattle.map_cells.specs.declared.retired.Retired.{Retired}

pub record CellTable : Type 0 where
  -- how many bytes a cell has
  pub value_size : ℕ
  -- how many cells may be kept at a time
  pub places : ℕ
  -- how many ids may ever be given
  pub ids : ℕ
  -- how many places are free
  pub free : ℕ
  -- the bytes of each cell, by its id; none of a cell that was freed
  pub cells : List (Option (List ℕ))
  -- the cells that were retired and are not freed, the oldest first
  pub retired : List Retired

abbrev pub cell_of_id : CellTable → ℕ → Option (List ℕ)
cell_of_id table id = slice_index_or table.cells id None

-- the cell was created and is not freed
abbrev pub is_kept_id : CellTable → ℕ → Bool
is_kept_id table id = is_some (cell_of_id table id)

-- the bytes of a kept cell
abbrev pub bytes_of_cell : Option (List ℕ) → List ℕ
bytes_of_cell (Some bytes) = bytes
bytes_of_cell None = []

abbrev pub bytes_of_id : CellTable → ℕ → List ℕ
bytes_of_id table id = bytes_of_cell (cell_of_id table id)

abbrev pub cell_number_at : CellTable → ℕ → ℕ → ℕ → ℕ
cell_number_at table id offset size = number_of_bytes (take size (drop offset (bytes_of_id table id)))

-- ---- the table after each call

abbrev pub empty_table : ℕ → ℕ → ℕ → CellTable
empty_table value_size places ids = record { value_size = value_size; places = places; ids = ids; free = places; cells = []; retired = [] }

-- a new cell gets the next id
abbrev pub with_new_cell : CellTable → List ℕ → CellTable
with_new_cell table bytes = record table { free = table.free - 1; cells = table.cells ++ Some bytes ∷ [] }

abbrev pub with_bytes : CellTable → ℕ → List ℕ → CellTable
with_bytes table id bytes = record table { cells = slice_set table.cells id (Some bytes) }

abbrev pub with_number : CellTable → ℕ → ℕ → ℕ → ℕ → CellTable
with_number table id offset size value = with_bytes table id (overwritten_at offset (bytes_of_number size value) (bytes_of_id table id))

-- the number that these bytes make is changed by an atomic operation
abbrev pub with_change : CellTable → ℕ → ℕ → ℕ → AtomicOp → ℕ → ℕ → CellTable
with_change table id offset size operation operand expected =
    with_number table id offset size (atomic_result (8 * size) operation (cell_number_at table id offset size) operand expected)

abbrev pub with_retired : CellTable → ℕ → ℕ → CellTable
with_retired table id stamp = record table { retired = table.retired ++ (record { id = id; stamp = stamp }) ∷ [] }

-- the retirement is below the floor: no reader from before it is left
abbrev pub is_below : ℕ → Retired → Bool
is_below floor one = nat_lt one.stamp floor

abbrev pub without_cells : List Retired → List (Option (List ℕ)) → List (Option (List ℕ))
without_cells [] cells = cells
without_cells (one ∷ others) cells = without_cells others (slice_set cells one.id None)

-- the retired cells below the floor are freed, the others wait on
abbrev pub freed_below : ℕ → CellTable → CellTable
freed_below floor table = record table {
  free = table.free + length (filter (is_below floor) table.retired);
  cells = without_cells (filter (is_below floor) table.retired) table.cells;
  retired = filter (λ one. not (is_below floor one)) table.retired;
}

-- ---- what a caller owes

abbrev pub unused_retired : Retired
unused_retired = record { id = 0; stamp = 0 }

abbrev pub retired_at : List Retired → ℕ → Retired
retired_at retired k = slice_index_or retired k unused_retired

-- the cell does not wait for its readers yet
abbrev pub IsNotRetired : CellTable → ℕ → Type 0
IsNotRetired table id = (k : ℕ) → k < length table.retired → (retired_at table.retired k).id ≢ id

-- no stamp so far is above this one
abbrev pub IsLatestStamp : CellTable → ℕ → Type 0
IsLatestStamp table stamp = (k : ℕ) → k < length table.retired → (retired_at table.retired k).stamp ≤ stamp

-- ---- the steps of a call that frees

abbrev pub oldest_stamp : List Retired → Option ℕ
oldest_stamp [] = None
oldest_stamp (one ∷ others) = Some one.stamp

abbrev pub without_oldest_of : List Retired → CellTable → CellTable
without_oldest_of [] table = table
without_oldest_of (one ∷ others) table = record table { free = table.free + 1; cells = slice_set table.cells one.id None; retired = others }

-- the cell that was retired first is freed
abbrev pub without_oldest : CellTable → CellTable
without_oldest table = without_oldest_of table.retired table

-- no retirement has a lower stamp
abbrev pub IsLowestStamp : List Retired → ℕ → Type 0
IsLowestStamp retired stamp = (k : ℕ) → k < length retired → stamp ≤ (retired_at retired k).stamp
