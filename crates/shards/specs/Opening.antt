-- The shards of an image's maps as they are opened. Contracts see the list of them by their numbers, map after map.
use Rattle.std.specs.Prelude.{◌≡◌, ℕ, ◌*◌, ◌<◌, List, length, slice_get, option_map}
use Rattle.ebpf_decode.specs.declared.map.MapDef.{MapDef}
use Rattle.semantics.specs.declared.options.Options.{Options}
use Rattle.semantics.specs.ShardPlan.{plan_at}
use Rattle.shard_core.specs.JournaledShard.{JournaledShard, opened_shard}

-- N shards to each map, each as its plan has it, and nothing has happened in them
pub record AreOpened (maps : List MapDef) (options : Options) (shards : List JournaledShard) : Type 0 where
  pub count : length shards ≡ length maps * options.shards
  pub each : (number : ℕ) → number < length shards → slice_get shards number ≡ option_map opened_shard (plan_at maps options number)
