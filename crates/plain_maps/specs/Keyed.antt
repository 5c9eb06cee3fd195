-- What a contract sees of an index of keys, and what holds of keys that are in order.
use Rattle.std.specs.Prelude.{◌≡◌, ℕ, suc, ◌*◌, ◌<◌, ◌≤◌, ◌↔◌, Bool, true, false, cond, nat_eq, List, [], ◌∷◌, map, length}
use Rattle.std.specs.Prelude.{slice_index_or, Option, Some, None, bytes_eq}
use Rattle.std.specs.Ordering.{nat_cmp}
use Rattle.std.specs.declared.cmp.Ordering.TheVariants.{Less}
use Rattle.std.specs.Cmp.Lexicographic.{slice_cmp}
use Rattle.std.specs.List.Sorted.{IsStrictlySortedBy}
use Rattle.std.specs.Map.{lookup}
use Rattle.map_cells.specs.Blocks.{block_of}

-- a finite map from keys of one size to entry numbers below the capacity
pub record KeyMap : Type 0 where
  pub size : ℕ
  pub capacity : ℕ
  pub entries : List (List ℕ × ℕ)

abbrev pub entry_number_of : KeyMap → List ℕ → Option ℕ
entry_number_of m key = lookup (bytes_eq key) m.entries

abbrev pub key_with : ℕ → List (List ℕ × ℕ) → Option (List ℕ)
key_with n [] = None
key_with n (entry ∷ entries) = cond (nat_eq n entry.1) (Some entry.0) (key_with n entries)

-- the key that has an entry number
abbrev pub key_of_number : KeyMap → ℕ → Option (List ℕ)
key_of_number m n = key_with n m.entries

-- a key has a number exactly where the number has the key
abbrev pub AreInverse : (List ℕ → Option ℕ) → (ℕ → Option (List ℕ)) → Type 0
AreInverse numbers keys = (key : List ℕ) (n : ℕ) → (numbers key ≡ Some n) ↔ (keys n ≡ Some key)

-- the key of an entry number, in the block of all keys
abbrev pub key_of : ℕ → List ℕ → ℕ → List ℕ
key_of size keys n = block_of size keys n

abbrev pub keys_in_order : ℕ → List ℕ → List ℕ → List (List ℕ)
keys_in_order size keys order = map (key_of size keys) order

abbrev pub entries_of : ℕ → List ℕ → List ℕ → List (List ℕ × ℕ)
entries_of size keys numbers = map (λ n. (key_of size keys n, n)) numbers

-- the numbers whose flags are set, from this one on
abbrev pub numbers_there : ℕ → List Bool → List ℕ
numbers_there from [] = []
numbers_there from (true ∷ flags) = from ∷ numbers_there (suc from) flags
numbers_there from (false ∷ flags) = numbers_there (suc from) flags

abbrev pub key_map : ℕ → ℕ → List ℕ → List Bool → KeyMap
key_map size capacity keys flags = record { size = size; capacity = capacity; entries = entries_of size keys (numbers_there 0 flags) }

abbrev pub Below : List ℕ → List ℕ → Type 0
Below x y = slice_cmp nat_cmp x y ≡ Less

-- the numbers are below the capacity, and their keys rise
pub record IsOrder (size capacity : ℕ) (keys order : List ℕ) : Type 0 where
  pub room_of_keys : length keys ≡ capacity * size
  pub in_range : (i : ℕ) → i < length order → slice_index_or order i 0 < capacity
  pub sorted : IsStrictlySortedBy (slice_cmp nat_cmp) (keys_in_order size keys order)

-- the key is at place i
pub record IsAt (size : ℕ) (keys order key : List ℕ) (i : ℕ) : Type 0 where
  pub in_range : i < length order
  pub has_key : key_of size keys (slice_index_or order i 0) ≡ key

-- smaller keys before place i, greater ones from it on
pub record IsGapFor (size : ℕ) (keys order key : List ℕ) (i : ℕ) : Type 0 where
  pub in_range : i ≤ length order
  pub before : (j : ℕ) → j < i → Below (key_of size keys (slice_index_or order j 0)) key
  pub after : (j : ℕ) → i ≤ j → j < length order → Below key (key_of size keys (slice_index_or order j 0))
