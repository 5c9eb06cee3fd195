-- What a contract sees of an LRU shard: which cell each key has, and in which order the keys were used.
use Rattle.std.specs.Prelude.{ℕ, List, [], ◌∷◌, Option, Some, None, bytes_eq}
use Rattle.std.specs.Map.{lookup, remove_entry}
use Rattle.lru.specs.LruCache.{promoted}

pub record LruTable : Type 0 where
  pub size : ℕ
  pub capacity : ℕ
  -- each key with the id of its cell, the key that was used last standing first
  pub entries : List (List ℕ × ℕ)

abbrev pub cell_of_lru_key : LruTable → List ℕ → Option ℕ
cell_of_lru_key table key = lookup (bytes_eq key) table.entries

-- ---- the table after each call

-- a key that is there is first once it is used
abbrev pub touched : List ℕ → LruTable → LruTable
touched key table = record table { entries = promoted (bytes_eq key) table.entries }

-- a new key is first
abbrev pub with_newest_key : List ℕ → ℕ → LruTable → LruTable
with_newest_key key id table = record table { entries = (key, id) ∷ table.entries }

abbrev pub table_without_key : List ℕ → LruTable → LruTable
table_without_key key table = record table { entries = remove_entry (bytes_eq key) table.entries }

-- the entry of the key whose last use was before all others
abbrev pub last_of : List (List ℕ × ℕ) → Option (List ℕ × ℕ)
last_of [] = None
last_of (entry ∷ []) = Some entry
last_of (entry ∷ other ∷ entries) = last_of (other ∷ entries)

abbrev pub victim : LruTable → Option (List ℕ × ℕ)
victim table = last_of table.entries

abbrev pub all_but_last_entry : List (List ℕ × ℕ) → List (List ℕ × ℕ)
all_but_last_entry [] = []
all_but_last_entry (entry ∷ []) = []
all_but_last_entry (entry ∷ other ∷ entries) = entry ∷ all_but_last_entry (other ∷ entries)

abbrev pub without_victim : LruTable → LruTable
without_victim table = record table { entries = all_but_last_entry table.entries }
