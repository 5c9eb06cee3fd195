-- The keys of a shard in the order of their entry numbers' last uses. The numbers that have no key are behind the others.
use Rattle.std.specs.Prelude.{◌≡◌, ℕ, ◌<◌, ◌≤◌, true, List, [], ◌∷◌, length, Option, Some, None, slice_index_or}
use Rattle.std.specs.List.{AllByRecursion}
use Rattle.plain_maps.specs.Keyed.{KeyMap, key_of_number}
use Rattle.lru_maps.specs.Recency.{is_listed}
use Rattle.lru_maps.specs.LruTable.{LruTable}

abbrev pub with_present_entry : Option (List ℕ) → ℕ → List (List ℕ × ℕ) → List (List ℕ × ℕ)
with_present_entry (Some key) id entries = (key, id) ∷ entries
with_present_entry None id entries = entries

-- the keys that these numbers have, each with its cell
abbrev pub in_order : (ℕ → Option (List ℕ)) → (ℕ → ℕ) → List ℕ → List (List ℕ × ℕ)
in_order keys ids [] = []
in_order keys ids (n ∷ order) = with_present_entry (keys n) (ids n) (in_order keys ids order)

abbrev pub HaveNoKey : (ℕ → Option (List ℕ)) → List ℕ → Type 0
HaveNoKey keys order = AllByRecursion (λ n. keys n ≡ None) order

-- behind a number that has no key, none has
abbrev pub FreeAreLast : (ℕ → Option (List ℕ)) → List ℕ → Type 0
FreeAreLast keys [] = Unit {0}
FreeAreLast keys (n ∷ order) = (keys n ≡ None → HaveNoKey keys order) × FreeAreLast keys order

-- the cell of an entry number
abbrev pub id_at : List ℕ → ℕ → ℕ
id_at ids n = slice_index_or ids n 0

abbrev pub lru_table : KeyMap → List ℕ → List ℕ → LruTable
lru_table index ids order = record {
  size = index.size;
  capacity = index.capacity;
  entries = in_order (key_of_number index) (id_at ids) order;
}

-- every entry number is in the order, and `count` is how many have a key
pub record IsLruShard (index : KeyMap) (ids order : List ℕ) (count : ℕ) : Type 0 where
  pub small_keys : index.size ≤ 32
  pub some : 0 < index.capacity
  pub id_count : length ids ≡ index.capacity
  pub number_count : length order ≡ index.capacity
  pub listed : (n : ℕ) → n < index.capacity → is_listed n order ≡ true
  pub in_range : (n : ℕ) → is_listed n order ≡ true → n < index.capacity
  pub free_last : FreeAreLast (key_of_number index) order
  pub counted : length (in_order (key_of_number index) (id_at ids) order) ≡ count
