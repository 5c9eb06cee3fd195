-- Lists of all keys that there are, each once, with what it has.
use Rattle.std.specs.Prelude.{◌≡◌, ℕ, List, Option, bytes_eq, slice_index_or, option_map}
use Rattle.std.specs.List.{IsDistinct}
use Rattle.std.specs.Map.{lookup, keys_of}
use Rattle.plain_maps.specs.Keyed.{KeyMap, entry_number_of}

-- the list has each key that has a value, once, with the value, and no other key
pub record ListsAll {V : Type 0} (value : List ℕ → Option V) (entries : List (List ℕ × V)) : Type 0 where
  pub apart : IsDistinct bytes_eq (keys_of entries)
  pub each : (key : List ℕ) → lookup (bytes_eq key) entries ≡ value key

-- what a list has at the entry number of a key
abbrev pub item_of : KeyMap → List ℕ → List ℕ → Option ℕ
item_of index items key = option_map (λ number. slice_index_or items number 0) (entry_number_of index key)

-- an entry with what is read at its value
abbrev pub read_entry : {V W : Type 0} → (V → W) → List ℕ × V → List ℕ × W
read_entry read entry = (entry.0, read entry.1)
