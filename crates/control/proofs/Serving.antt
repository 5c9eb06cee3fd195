-- The maps of steering take the updates of a controller.
use Rattle.std.proofs.Common.{◌≡◌, ℕ, List, length, Some, refl, sym, subst, ap, ◌∙◌}
use Rattle.std.specs.Prelude.{slice_get}
use Rattle.ebpf_decode.specs.declared.map.MapDef.{MapDef}
use Rattle.conntrack.specs.SteeringMaps.{AreSteeringMaps, sized_maps}
use Rattle.control.specs.MapUpdates.{UpdateBytes, IsUpdateOf}

pub known_update : (served : List MapDef) (size : ℕ) (update : UpdateBytes) (definition : MapDef) → (are : AreSteeringMaps size served) → slice_get (sized_maps are.notes size) update.map ≡ Some definition
    → length update.key ≡ definition.key_size → length update.value ≡ definition.value_size → IsUpdateOf served update
known_update served size update definition are known key value = record {
  definition = definition;
  known = ap (λ (maps : List MapDef). slice_get maps update.map) are.maps_are ∙ known;
  key_size = key;
  value_size = value;
}

-- maps that are the same ones are still those of steering
pub still_steering : (size : ℕ) (before after : List MapDef) → AreSteeringMaps size before → after ≡ before → AreSteeringMaps size after
still_steering size before after are same = subst (AreSteeringMaps size) (sym same) are
