-- What a contract sees of a keyed shard: which cell each key has.
use Rattle.std.specs.Prelude.{◌≡◌, ◌≢◌, ℕ, ◌+◌, ◌<◌, ◌≤◌, List, map, length, Option, Some, slice_index_or, bytes_eq}
use Rattle.std.specs.Map.{lookup}
use Rattle.plain_maps.specs.Keyed.{KeyMap, entry_number_of}

-- a finite map from keys of one size to the ids of cells
pub record HashTable : Type 0 where
  pub size : ℕ
  pub capacity : ℕ
  pub entries : List (List ℕ × ℕ)

abbrev pub cell_of : HashTable → List ℕ → Option ℕ
cell_of table key = lookup (bytes_eq key) table.entries

-- the id that an entry's number has
abbrev pub with_id : List ℕ → List ℕ × ℕ → List ℕ × ℕ
with_id ids entry = (entry.0, slice_index_or ids entry.1 0)

abbrev pub hash_table : KeyMap → List ℕ → HashTable
hash_table index ids = record { size = index.size; capacity = index.capacity; entries = map (with_id ids) index.entries }

-- the entry numbers that no key has are listed, each once
pub record IsHashTable (index : KeyMap) (ids free : List ℕ) (free_room : ℕ) : Type 0 where
  pub id_count : length ids ≡ index.capacity
  pub room : index.capacity ≤ free_room
  pub in_range : (k : ℕ) → k < length free → slice_index_or free k 0 < index.capacity
  pub once : (k m : ℕ) → k < m → m < length free → slice_index_or free k 0 ≢ slice_index_or free m 0
  pub unused : (k : ℕ) (q : List ℕ) → k < length free → entry_number_of index q ≢ Some (slice_index_or free k 0)
  pub balance : length free + length index.entries ≡ index.capacity
