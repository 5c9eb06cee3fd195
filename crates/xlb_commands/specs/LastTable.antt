-- What `--summary` says of the lookup table at the end of a replay.
use Rattle.std.specs.Prelude.{◌≡◌, ℕ, List, [], take}
use Rattle.semantics.specs.ShardPlan.{KeepsRows}
use Rattle.journals.specs.JournalsView.{JournalsView}
use Rattle.maglev.specs.RingSize.{IsRingSize}
use Rattle.conntrack.specs.declared.steering_maps.SteeringMap.TheVariants.{Ring, Backends}
use Rattle.conntrack.specs.SteeringMaps.{AreSteeringMaps, map_place}
use Rattle.map_contents.specs.Fronts.{AreFronts}
use Rattle.traffic.specs.LastShares.{last_shares}
use Rattle.steered_replays.specs.LastWords.{last_words}

-- the journals are of the maps of steering for a lookup table of this size
pub record AreOfTable (journals : JournalsView) (size : ℕ) : Type 0 where
  pub served : IsRingSize size
  pub maps_are : AreSteeringMaps size journals.maps

-- the lines of the backends that own slots of a table of this size, by what the maps hold: the table is the front of its map
pub record AreHeldShares (journals : JournalsView) (size : ℕ) (lines : List ℕ) : Type 0 where
  pub words : List ℕ
  pub words_are : AreFronts journals (map_place Ring) words
  pub records : List ℕ
  pub records_are : AreFronts journals (map_place Backends) records
  pub lines_are : lines ≡ last_shares (take size words) records

-- the lines of the backends that own slots: by the words that the updates of journals lead to, whose rows are kept; else by what the maps
-- hold; none where there is no table
pub data AreShareLines (journals : JournalsView) (lines : List ℕ) : Type 0 where
  of_rows : (size : ℕ) → AreOfTable journals size → KeepsRows journals.options.journal
      → lines ≡ last_shares (last_words journals Ring size) (last_words journals Backends 256) → AreShareLines journals lines
  of_maps : (size : ℕ) → AreOfTable journals size → ¬ KeepsRows journals.options.journal → AreHeldShares journals size lines
      → AreShareLines journals lines
  of_none : ((size : ℕ) → ¬ AreOfTable journals size) → lines ≡ [] → AreShareLines journals lines
