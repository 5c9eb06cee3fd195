-- The number of notes of a flow table of which nothing is said.
use Rattle.std.proofs.Common.{◌≡◌, ◌↔◌, ℕ, zero, List, refl, arith}
use Rattle.maglev.specs.RingSize.{IsRingSize}
use Rattle.ebpf_decode.specs.declared.map.MapDef.{MapDef}
use Rattle.conntrack.specs.SteeringMaps.{IsNoteCount, AreSteeringMaps, steering_maps}

-- it is one that a flow table may have
pub default_notes : IsNoteCount 4096
default_notes = (zero, omega arith, refl)

-- and the maps with it are those of steering
pub are_steering : (size : ℕ) (maps : List MapDef) → maps ≡ steering_maps size → AreSteeringMaps size maps
are_steering size maps are = record { notes = 4096; may_be = default_notes; maps_are = are }

-- so with it the size of the lookup table alone decides
pub size_decides : (size : ℕ) → (¬ (IsNoteCount 4096 × IsRingSize size)) ↔ (¬ IsRingSize size)
size_decides size = (λ (neither : ¬ (IsNoteCount 4096 × IsRingSize size)) (is : IsRingSize size). neither (default_notes, is), λ (none : ¬ IsRingSize size) (both : IsNoteCount 4096 × IsRingSize size). none both.1)
