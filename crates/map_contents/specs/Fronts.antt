-- The numbers with which the values of a map begin.
use Rattle.std.specs.Prelude.{◌≡◌, ℕ, List, map}
use Rattle.journals.specs.JournalsView.{JournalsView}
use Rattle.shard_core.specs.JournaledShard.{JournaledShard}
use Rattle.shards.specs.MapContents.{AreContentsOfMap}
use Rattle.map_meanings.specs.Meanings.{slot_word}
use Rattle.map_contents.specs.Remade.{AreShardsOf}

-- of all that the map at this place holds after the calls of the journals, in the order of its keys
pub record AreFronts (journals : JournalsView) (place : ℕ) (fronts : List ℕ) : Type 0 where
  pub shards : List JournaledShard
  pub of_journals : AreShardsOf journals shards
  pub entries : List (List ℕ × List ℕ)
  pub contents : AreContentsOfMap journals.maps journals.options shards place entries
  pub fronts_are : fronts ≡ map (λ (entry : List ℕ × List ℕ). slot_word entry.1) entries
