-- The cells of one shard of an array: its indices are those with its remainder, and the cell of each is the quotient.
use Rattle.std.specs.Prelude.{ℕ, ◌/◌, ◌%◌, ◌==◌, ◌&&◌, Bool, nat_lt, List, length, Option, Some, None, if◌then◌else◌}
use Rattle.semantics.specs.LittleEndian.{number_of_bytes}
use Rattle.semantics.specs.History.{are_bytes}

-- the cell of an index of this shard, if the array has the index
abbrev pub cell_of_array_index : ℕ → ℕ → ℕ → Option ℕ
cell_of_array_index max_entries parts index = if nat_lt index max_entries then Some (index / parts) else None

-- the key is an index of this part: four bytes, the lowest first
abbrev pub is_index_of : ℕ → ℕ → List ℕ → Bool
is_index_of parts part key = length key == 4 && (number_of_bytes key % parts == part && are_bytes key)

-- the cell of a key, if it is an index of this part that the array has
abbrev pub cell_in_part : ℕ → ℕ → ℕ → List ℕ → Option ℕ
cell_in_part max_entries parts part key =
    if is_index_of parts part key then cell_of_array_index max_entries parts (number_of_bytes key) else None
