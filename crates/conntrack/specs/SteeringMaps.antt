-- The six maps of steering, by their places in an image's list.
use Rattle.std.specs.Prelude.{◌≡◌, ℕ, ◌+◌, ◌*◌, ◌/◌, List, [], ◌∷◌, Contains}
use Rattle.ebpf_decode.specs.declared.map.MapDef.{MapDef}
use Rattle.ebpf_decode.specs.declared.map.MapKind.{MapKind}
use Rattle.ebpf_decode.specs.declared.map.MapKind.TheVariants.{Hash, Array, LruHash}
use Rattle.conntrack.specs.declared.steering_maps.SteeringMap.{SteeringMap}
use Rattle.conntrack.specs.declared.steering_maps.SteeringMap.TheVariants.{Vips, Flows, Ring, Backends, Ctl, Stats}

abbrev pub map_place : SteeringMap → ℕ
map_place Vips = 0
map_place Flows = 1
map_place Ring = 2
map_place Backends = 3
map_place Ctl = 4
map_place Stats = 5

abbrev pub map_kind : SteeringMap → MapKind
map_kind Vips = Hash
map_kind Flows = LruHash
map_kind Ring = Array
map_kind Backends = Array
map_kind Ctl = Array
map_kind Stats = Array

abbrev pub defined : MapKind → ℕ → ℕ → ℕ → MapDef
defined kind key_size value_size max_entries =
    record { kind = kind; key_size = key_size; value_size = value_size; max_entries = max_entries }

-- the entries of the ring map: a slot each, rounded up so that they can be divided among 1, 2, 4 or 8 shards
abbrev pub ring_entries : ℕ → ℕ
ring_entries size = (size + 7) / 8 * 8

-- how many notes a flow table may have: all of them are a multiple of 8, the most shards of a map
abbrev pub note_counts : List ℕ
note_counts = 4096 ∷ 8192 ∷ 16384 ∷ 32768 ∷ 65536 ∷ 131072 ∷ []

-- a flow table may have this many
abbrev pub IsNoteCount : ℕ → Type 0
IsNoteCount notes = Contains note_counts notes

-- the maps for a flow table of so many notes and a lookup table of this size
abbrev pub sized_maps : ℕ → ℕ → List MapDef
sized_maps notes size =
    defined Hash 8 8 64
    ∷ defined LruHash 16 8 notes
    ∷ defined Array 4 8 (ring_entries size)
    ∷ defined Array 4 8 256
    ∷ defined Array 4 24 8
    ∷ defined Array 4 8 8
    ∷ []

-- those that are meant where nothing is said of the notes
abbrev pub steering_maps : ℕ → List MapDef
steering_maps size = sized_maps 4096 size

-- these are the maps for a lookup table of this size, and a flow table of some number of notes
pub record AreSteeringMaps (size : ℕ) (maps : List MapDef) : Type 0 where
  pub notes : ℕ
  pub may_be : IsNoteCount notes
  pub maps_are : maps ≡ sized_maps notes size
