-- Where the cells are: each kept id has a place of its own, and the free places are all others.
use Rattle.std.specs.Prelude.{◌≡◌, ◌≢◌, ℕ, ◌+◌, ◌*◌, ◌==◌, ◌<◌, ◌≤◌, List, [], ◌∷◌, length, map, Option, Some, None, slice_index_or}
use Rattle.std.specs.Prelude.{if◌then◌else◌}
use Rattle.map_cells.specs.declared.retired.Retired.{Retired}
use Rattle.map_cells.specs.Blocks.{block_of}
use Rattle.map_cells.specs.CellTable.{CellTable, retired_at}

-- what represents the place of an id that was freed
abbrev pub no_place : ℕ
no_place = 4294967295

-- the place of an id
abbrev pub place_at : List ℕ → ℕ → ℕ
place_at place_of id = slice_index_or place_of id no_place

abbrev pub cell_in_block : ℕ → List ℕ → ℕ → Option (List ℕ)
cell_in_block size bytes place = if place == no_place then None else Some (block_of size bytes place)

abbrev pub cells_in : ℕ → List ℕ → List ℕ → List (Option (List ℕ))
cells_in size bytes place_of = map (cell_in_block size bytes) place_of

-- what a contract sees of the fields of a table
abbrev pub cell_table : ℕ → ℕ → ℕ → List ℕ → List ℕ → List ℕ → List Retired → CellTable
cell_table size places ids bytes place_of free retired =
    record { value_size = size; places = places; ids = ids; free = length free; cells = cells_in size bytes place_of; retired = retired }

-- how many ids have a place
abbrev pub kept_one : ℕ → ℕ
kept_one place = if place == no_place then 0 else 1

abbrev pub kept_count : List ℕ → ℕ
kept_count [] = 0
kept_count (place ∷ rest) = kept_one place + kept_count rest

-- kept ids have places of their own, and the free ones are others
pub record IsAllotted (places : ℕ) (place_of free : List ℕ) : Type 0 where
  pub in_range : (id : ℕ) → place_at place_of id ≢ no_place → place_at place_of id < places
  pub apart : (i j : ℕ) → place_at place_of i ≢ no_place → place_at place_of i ≡ place_at place_of j → i ≡ j
  pub free_in_range : (k : ℕ) → k < length free → slice_index_or free k 0 < places
  pub free_apart : (k m : ℕ) → k < m → m < length free → slice_index_or free k 0 ≢ slice_index_or free m 0
  pub free_unused : (k id : ℕ) → k < length free → place_at place_of id ≢ slice_index_or free k 0
  pub balance : length free + kept_count place_of ≡ places

-- the retired cells are kept, each once, and their stamps do not fall
pub record IsWaiting (place_of : List ℕ) (retired : List Retired) : Type 0 where
  pub kept : (k : ℕ) → k < length retired → place_at place_of (retired_at retired k).id ≢ no_place
  pub once : (k m : ℕ) → k < m → m < length retired → (retired_at retired k).id ≢ (retired_at retired m).id
  pub rising : (k m : ℕ) → k < m → m < length retired → (retired_at retired k).stamp ≤ (retired_at retired m).stamp

-- the fields of a table, with the room that was made for them
pub record IsTableOfCells (size places ids : ℕ) (bytes place_of free : List ℕ) (retired : List Retired)
    (room places_reserved retired_reserved : ℕ) : Type 0 where
  pub small_size : size ≤ 256
  pub few : places < no_place
  pub bytes_room : length bytes ≡ places * size
  pub place_room : room ≡ places
  pub free_room : places ≤ places_reserved
  pub retired_room : places ≤ retired_reserved
  pub allotted : IsAllotted places place_of free
  pub waiting : IsWaiting place_of retired
