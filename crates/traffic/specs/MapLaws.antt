-- What the maps as they are written owe as a port.
use Rattle.std.proofs.Common.{◌≡◌, ℕ, zero, suc, Bool, true, false, Option, Some, None, arith, refl, ap, ◌∙◌, ◌||◌, not}
use Rattle.std.specs.Prelude.{ℤ, pos, slice_get, ◌==◌}
use Rattle.ebpf_decode.specs.declared.map.MapDef.{MapDef}
use Rattle.ebpf_decode.specs.declared.map.MapKind.{MapKind}
use Rattle.ebpf_decode.specs.declared.map.MapKind.TheVariants.{Array, Hash}
use Rattle.std.proofs.lemmas.Bool.Decides.{nat_tests}
use Rattle.conntrack.specs.SteeringMaps.{steering_maps}
use Rattle.control.specs.MapUpdates.{UpdateBytes, IsInArray}
use Rattle.control.specs.ListOfUpdates.{answer_if}
use Rattle.traffic.specs.WrittenMaps.{MapsState, IsUpdateAnswered, is_key_taken}

pub same_size : (before after : MapsState) (update : UpdateBytes) (answer : ℤ) → IsUpdateAnswered before update answer after →
    steering_maps after.size ≡ steering_maps before.size
same_size before after update answer is = ap (λ (state : MapsState). steering_maps state.size) is.state_is

hash_is_array : ◌≡◌ {A = MapKind} Hash Array → ⊥
hash_is_array e = absurd cc

not_first : (map : ℕ) → (suc map == 0) ≡ true → ⊥
not_first map e = grind (arith, nat_tests)

abbrev kind_in : Option MapDef → MapKind
kind_in (Some definition) = definition.kind
kind_in None = Array

-- the map of services is no array
no_array : (size map : ℕ) (definition : MapDef) → (map == 0) ≡ true → slice_get (steering_maps size) map ≡ Some definition →
    definition.kind ≡ Array → ⊥
no_array size zero definition first known array = hash_is_array (ap kind_in known ∙ array)
no_array size (suc map) definition first known array = not_first map first

taken : (size map : ℕ) (definition : MapDef) (is_taken first : Bool) → (map == 0) ≡ first →
    slice_get (steering_maps size) map ≡ Some definition → definition.kind ≡ Array → answer_if (not first || is_taken) ≡ pos 0
taken size map definition is_taken true is known array = absurd (no_array size map definition is known array)
taken size map definition is_taken false is known array = refl

pub arrays_take : (before after : MapsState) (update : UpdateBytes) (answer : ℤ) → IsInArray (steering_maps before.size) update →
    IsUpdateAnswered before update answer after → answer ≡ pos 0
arrays_take before after update answer stands is =
    is.answer_is ∙ taken before.size update.map stands.definition (is_key_taken before.keys update.key) (update.map == 0) refl
    stands.known stands.array
