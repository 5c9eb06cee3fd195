-- What the maps of steering tell of the meaning of entries: the lookup table, and the addresses of the backends.
use Rattle.std.specs.Prelude.{◌≡◌, ℕ, List, map, Option, Some, None}
use Rattle.maglev.specs.RingSize.{IsRingSize}
use Rattle.conntrack.specs.SteeringMaps.{AreSteeringMaps}
use Rattle.journals.specs.JournalsView.{JournalsView}
use Rattle.shard_core.specs.JournaledShard.{JournaledShard}
use Rattle.shards.specs.MapContents.{AreContentsOfMap}
use Rattle.map_meanings.specs.declared.tables.Tables.{Tables}
use Rattle.map_meanings.specs.Meanings.{backend_address, slot_word}

-- the words and the addresses in the records of the maps 2 and 3
pub record AreTables (journals : JournalsView) (shards : List JournaledShard) (tables : Tables) : Type 0 where
  pub slots : List (List ℕ × List ℕ)
  pub slots_are : AreContentsOfMap journals.maps journals.options shards 2 slots
  pub words_are : tables.words.items ≡ map (λ (entry : List ℕ × List ℕ). slot_word entry.1) slots
  pub backends : List (List ℕ × List ℕ)
  pub backends_are : AreContentsOfMap journals.maps journals.options shards 3 backends
  pub addresses_are : tables.addresses.items ≡ map (λ (entry : List ℕ × List ℕ). backend_address entry.1) backends

-- the six maps of steering tell it, for a lookup table of whatever size; other maps tell nothing
pub data IsTold (journals : JournalsView) (shards : List JournaledShard) (told : Option Tables) : Type 0 where
  of_steering : (size : ℕ) (tables : Tables) → IsRingSize size → AreSteeringMaps size journals.maps → AreTables journals shards tables
      → told ≡ Some tables → IsTold journals shards told
  of_others : ((size : ℕ) → IsRingSize size → ¬ AreSteeringMaps size journals.maps) → told ≡ None → IsTold journals shards told
