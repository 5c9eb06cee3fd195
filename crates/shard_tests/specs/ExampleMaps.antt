-- The maps of the tests' image: an array of one entry, one of three, and a hash map of two.
use Rattle.std.specs.Prelude.{ℕ, List, [], ◌∷◌}
use Rattle.ebpf_decode.specs.declared.map.MapDef.{MapDef}
use Rattle.ebpf_decode.specs.declared.map.MapKind.TheVariants.{Array, Hash}

abbrev pub array_of : ℕ → MapDef
array_of entries = record { kind = Array; key_size = 4; value_size = 8; max_entries = entries }

abbrev pub hash_map_of : ℕ → MapDef
hash_map_of entries = record { kind = Hash; key_size = 4; value_size = 8; max_entries = entries }

abbrev pub example_maps : List MapDef
example_maps = array_of 1 ∷ array_of 3 ∷ hash_map_of 2 ∷ []
