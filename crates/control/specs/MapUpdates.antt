-- What commands put into the maps of steering, and what a port to these maps owes.
use Rattle.std.specs.Prelude.{◌≡◌, ℕ, ◌<◌, ℤ, pos, Bool, List, [], ◌∷◌, ◌++◌, length, Some, IfSome, ◌+◌, ◌^◌, slice_get}
use Rattle.ebpf_decode.specs.declared.map.MapDef.{MapDef}
use Rattle.ebpf_decode.specs.declared.map.MapKind.TheVariants.{Array}
use Rattle.semantics.specs.LittleEndian.{number_of_bytes, bytes_of_number}
use Rattle.wire.specs.declared.ethernet.Ipv4Address.{Ipv4Address}
use Rattle.conntrack.specs.SteeringMaps.{map_place}
use Rattle.conntrack.specs.declared.steering_maps.SteeringMap.TheVariants as maps
use Rattle.conntrack.specs.Layouts.{service_key, vip_bytes, ring_bytes, backend_bytes, tunnel_bytes}
use Rattle.control.specs.declared.update.Update.{Update}
use Rattle.control.specs.declared.update.Update.TheVariants.{Vip, Ring, Backend, Tunnel}

-- a key of a map, and what is put there whether or not the key is present (the flags ANY of bpf(2))
pub record UpdateBytes : Type 0 where
  pub map : ℕ
  pub key : List ℕ
  pub value : List ℕ

-- the bytes of an update
abbrev pub map_update : Update → UpdateBytes
map_update (Vip service vip) = record { map = map_place maps.Vips; key = service_key service; value = vip_bytes vip }
map_update (Ring slot ring) = record { map = map_place maps.Ring; key = bytes_of_number 4 slot; value = ring_bytes ring }
map_update (Backend number backend) =
    record { map = map_place maps.Backends; key = bytes_of_number 4 number; value = backend_bytes backend }
map_update (Tunnel tunnel) = record { map = map_place maps.Ctl; key = bytes_of_number 4 0; value = tunnel_bytes tunnel }

-- a slot's owner has a number that can be kept as one more
abbrev pub HasOwner : Update → Type 0
HasOwner (Vip service vip) = Unit {0}
HasOwner (Ring slot ring) = IfSome ring.owner (λ number. number + 1 < 2 ^ 32)
HasOwner (Backend number backend) = Unit {0}
HasOwner (Tunnel tunnel) = Unit {0}

-- the update is one of an array of the maps for a table of this size, at an index that it has
abbrev pub StandsInArray : ℕ → Update → Type 0
StandsInArray size (Vip service vip) = ⊥
StandsInArray size (Ring slot ring) = (slot < size) × (size < 65538)
StandsInArray size (Backend number backend) = number < 256
StandsInArray size (Tunnel tunnel) = Unit {0}

-- ---- what a port owes

-- the update is one of a map that there is, and its key and value have this map's sizes
pub record IsUpdateOf (served : List MapDef) (update : UpdateBytes) : Type 0 where
  pub definition : MapDef
  pub known : slice_get served update.map ≡ Some definition
  pub key_size : length update.key ≡ definition.key_size
  pub value_size : length update.value ≡ definition.value_size

-- the update is one of an array, at an index that this has
pub record IsInArray (served : List MapDef) (update : UpdateBytes) : Type 0 where
  pub definition : MapDef
  pub known : slice_get served update.map ≡ Some definition
  pub array : definition.kind ≡ Array
  pub index : length update.key ≡ 4
  pub inside : number_of_bytes update.key < definition.max_entries

-- each update is made of the port that the one before it left, and is answered 0
abbrev pub AreMade : {P : Type 0} → (P → UpdateBytes → ℤ → P → Type 0) → P → List Update → P → Type 0
AreMade gives before [] after = before ≡ after
AreMade {P} gives before (update ∷ later) after =
    (middle : P) × gives before (map_update update) (pos 0) middle × AreMade gives middle later after

-- some of the updates are made in their order, then the next one is refused, and no other is made
pub record AreCutShort {P : Type 0} (gives : P → UpdateBytes → ℤ → P → Type 0) (refuses : P → UpdateBytes → P → Type 0)
    (before : P) (updates : List Update) (after : P) : Type 0 where
  pub made : List Update
  pub next : Update
  pub later : List Update
  pub middle : P
  pub in_order : updates ≡ made ++ next ∷ later
  pub are_made : AreMade gives before made middle
  pub is_refused : refuses middle (map_update next) after
