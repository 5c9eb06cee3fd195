-- Shards whose calls are those of journals.
use Rattle.std.specs.Prelude.{◌≡◌, ℕ, List, Some, slice_get, slice_set}
use Rattle.semantics.specs.declared.call.Entry.{Entry}
use Rattle.journals.specs.JournalsView.{JournalsView, entries_at}
use Rattle.shard_core.specs.JournaledShard.{JournaledShard}
use Rattle.shards.specs.MapContents.{HavePlans}

-- the shards of the journals' maps after the calls of the journals
pub record AreShardsOf (journals : JournalsView) (shards : List JournaledShard) : Type 0 where
  pub plans : HavePlans journals.maps journals.options shards
  pub written :
      (number : ℕ) (shard : JournaledShard) → slice_get shards number ≡ Some shard → shard.journal ≡ entries_at journals number

-- the shard of this number has made all these calls, and no other shard any
pub record IsMadeAgain (before : List JournaledShard) (number : ℕ) (entries : List Entry) (after : List JournaledShard) : Type 0 where
  pub one : JournaledShard
  pub known : slice_get before number ≡ Some one
  pub made : after ≡ slice_set before number (record { plan = one.plan; journal = entries })
