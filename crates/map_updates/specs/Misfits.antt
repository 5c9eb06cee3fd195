-- Which maps take an update: its map is one of them, and its key and its value have that map's lengths.
use Rattle.std.specs.Prelude.{◌≡◌, ◌==◌, ℕ, ◌++◌, codes, decimal, List, length, take, Option, Some, None, slice_get, if◌then◌else◌}
use Rattle.std.specs.List.{All}
use Rattle.ebpf_decode.specs.declared.map.MapDef.{MapDef}
use Rattle.map_updates.specs.declared.misfit.Misfit.{Misfit}
use Rattle.map_updates.specs.declared.misfit.Misfit.TheVariants.{NoMap, KeyLength, ValueLength}
use Rattle.map_updates.specs.declared.update.MapUpdate.{MapUpdate}

abbrev pub misfit_in : MapDef → MapUpdate → Option Misfit
misfit_in definition update =
    if length update.key == definition.key_size
    then (if length update.value == definition.value_size then None else
    Some (ValueLength update.map definition.value_size (length update.value)))
    else Some (KeyLength update.map definition.key_size (length update.key))

abbrev pub misfit_among : Option MapDef → MapUpdate → Option Misfit
misfit_among (Some definition) update = misfit_in definition update
misfit_among None update = Some (NoMap update.map)

-- what is wrong with an update of one of these maps, the first of: its map, its key's length, its value's length
abbrev pub misfit_of : List MapDef → MapUpdate → Option Misfit
misfit_of maps update = misfit_among (slice_get maps update.map) update

-- what is printed of a key or a value of another length
abbrev pub length_text : List ℕ → ℕ → ℕ → ℕ → List ℕ
length_text part map wanted given =
    codes "a " ++ (part ++ (codes " of map " ++ (decimal map ++ (codes " has " ++
    (decimal wanted ++ (codes " bytes, not " ++ decimal given))))))

-- what is printed of a misfit
abbrev pub misfit_text : Misfit → List ℕ
misfit_text (NoMap map) = codes "the image has no map " ++ decimal map
misfit_text (KeyLength map wanted given) = length_text (codes "key") map wanted given
misfit_text (ValueLength map wanted given) = length_text (codes "value") map wanted given

-- the maps take each of these updates
abbrev pub AreFitting : List MapDef → List MapUpdate → Type 0
AreFitting maps updates = All (λ (update : MapUpdate). misfit_of maps update ≡ None) updates

-- the update at a place is the first that they do not take, and this is why
pub record IsFirstMisfit (maps : List MapDef) (updates : List MapUpdate) (place : ℕ) (misfit : Misfit) : Type 0 where
  pub update : MapUpdate
  pub known : slice_get updates place ≡ Some update
  pub wrong : misfit_of maps update ≡ Some misfit
  pub earlier : AreFitting maps (take place updates)
