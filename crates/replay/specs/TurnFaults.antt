-- What a fault of an update says of the shards, in a replay on one thread.
use Rattle.std.specs.Prelude.{List}
use Rattle.ebpf_decode.specs.declared.map.MapDef.{MapDef}
use Rattle.map_updates.specs.declared.update.MapUpdate.{MapUpdate}
use Rattle.semantics.specs.declared.options.Options.{Options}
use Rattle.shard_core.specs.JournaledShard.{JournaledShard}
use Rattle.shards.specs.Opening.{AreOpened}
use Rattle.actors.specs.declared.fault.ReplayFault.{ReplayFault}
use Rattle.actors.specs.FirstUpdates.{IsWhyNotSet}
use Rattle.replay.specs.InTurn.{IsUpdatedInTurn, IsTurnedAwayInTurn}

-- over shards in which nothing else has happened: the answer is that of the one-thread map with the values of those before it
pub record IsWhyInTurn (maps : List MapDef) (options : Options) (updates : List MapUpdate) (fault : ReplayFault) : Type 0 where
  pub opened : List JournaledShard
  pub opened_are : AreOpened maps options opened
  pub why : IsWhyNotSet IsUpdatedInTurn IsTurnedAwayInTurn (record { maps = maps; options = options; shards = opened }) updates fault
