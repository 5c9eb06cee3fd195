-- Which maps an image may have, and a map's sixteen bytes: type, key size, value size and most entries, each a little-endian
-- number of 32 bits.
use Rattle.std.specs.Prelude.{ℕ, ◌%◌, Bool, nat_le, ◌==◌, ◌&&◌, List, [], ◌∷◌, ◌++◌, Option, Some, None, if◌then◌else◌, slice_index}
use Rattle.std.specs.Int.{w32, to_le_bytes, from_le_bytes}
use Rattle.ebpf_decode.specs.declared.version.Version.{Version}
use Rattle.ebpf_decode.specs.Versions.{most_value_bytes}
use Rattle.ebpf_decode.specs.declared.map.MapKind.{MapKind}
use Rattle.ebpf_decode.specs.declared.map.MapKind.TheVariants.{Hash, Array, LruHash}
use Rattle.ebpf_decode.specs.declared.map.MapDef.{MapDef}

-- Linux's numbers of map types
abbrev pub map_type : MapKind → ℕ
map_type Hash = 1
map_type Array = 2
map_type LruHash = 9

-- how many bytes a key may have: four in an array, else 1 to 32
abbrev pub is_key_size : MapKind → ℕ → Bool
is_key_size Array size = size == 4
is_key_size kind size = nat_le 1 size && nat_le size 32

-- how many bytes a value may have: 8, 16, .. 64, in version 2 to 256
abbrev pub is_value_size : Version → ℕ → Bool
is_value_size version size = (size % 8 == 0) && nat_le 8 size && nat_le size (most_value_bytes version)

abbrev pub is_entry_count : ℕ → Bool
is_entry_count count = nat_le 1 count && nat_le count 131072

-- an image of this version may have the map
abbrev pub is_allowed_map : Version → MapDef → Bool
is_allowed_map version m = is_key_size m.kind m.key_size && is_value_size version m.value_size && is_entry_count m.max_entries

abbrev pub map_bytes : MapDef → List ℕ
map_bytes m =
    to_le_bytes w32 (map_type m.kind) ++ to_le_bytes w32 m.key_size ++ to_le_bytes w32 m.value_size ++ to_le_bytes w32 m.max_entries

-- ---- reading

abbrev pub map_kind_at : ℕ → Option MapKind
map_kind_at number = if number == 1 then Some Hash else (if number == 2 then Some Array else (if number == 9 then Some LruHash else None))

-- the number of 32 bits at a place
abbrev pub word_of_bytes : ℕ → ℕ → ℕ → ℕ → ℕ
word_of_bytes a b c d = from_le_bytes w32 (a ∷ b ∷ c ∷ d ∷ [])

abbrev pub allowed : Version → MapDef → Option MapDef
allowed version m = if is_allowed_map version m then Some m else None

abbrev pub map_of_kind : Version → Option MapKind → ℕ → ℕ → ℕ → Option MapDef
map_of_kind version None key_size value_size max_entries = None
map_of_kind version (Some kind) key_size value_size max_entries =
    allowed version (record { kind = kind; key_size = key_size; value_size = value_size; max_entries = max_entries })

-- the map at the front of the bytes, if it is one that images of this version may have
unfoldable pub map_in_bytes : Version → List ℕ → Option MapDef
map_in_bytes version bytes = map_of_kind version
    (map_kind_at (word_of_bytes (slice_index bytes 0) (slice_index bytes 1) (slice_index bytes 2) (slice_index bytes 3)))
    (word_of_bytes (slice_index bytes 4) (slice_index bytes 5) (slice_index bytes 6) (slice_index bytes 7))
    (word_of_bytes (slice_index bytes 8) (slice_index bytes 9) (slice_index bytes 10) (slice_index bytes 11))
    (word_of_bytes (slice_index bytes 12) (slice_index bytes 13) (slice_index bytes 14) (slice_index bytes 15))
