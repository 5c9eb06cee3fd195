-- The lines of one map more, and how many maps there are.
use Rattle.std.proofs.Common.{◌≡◌, ◌<◌, ℕ, suc, ◌+◌, ◌++◌, List, Option, length, ap, subst, arith}
use Rattle.ebpf_decode.specs.declared.map.MapDef.{MapDef}
use Rattle.conntrack.specs.SteeringMaps.{AreSteeringMaps}
use Rattle.journals.specs.JournalsView.{JournalsView}
use Rattle.shard_core.specs.JournaledShard.{JournaledShard}
use Rattle.map_meanings.specs.declared.form.ContentsForm.{ContentsForm}
use Rattle.map_meanings.specs.declared.tables.Tables.{Tables}
use Rattle.map_contents.specs.ContentsText.{AreLinesTo, AreMapLines}

pub one_more_map : (form : ContentsForm) (told : Option Tables) (journals : JournalsView) (shards : List JournaledShard) (map : ℕ) (before lines text : List ℕ) → AreLinesTo form told journals shards map before →
    AreMapLines form told journals shards map lines → text ≡ before ++ lines → AreLinesTo form told journals shards (map + 1) text
one_more_map form told journals shards map before lines text are more is =
    let next : suc map ≡ map + 1 = omega arith in
    subst (λ (n : ℕ). AreLinesTo form told journals shards n text) next (before, lines, are, more, is)

-- there are more than three maps of steering
pub four_maps : (size : ℕ) (maps : List MapDef) → AreSteeringMaps size maps → 3 < length maps
four_maps size maps are = omega (arith, ap (λ (them : List MapDef). length them) are.maps_are)
