use Rattle.std.proofs.Common.{◌≡◌, ℕ, ◌<◌, length}
use Rattle.std.specs.Prelude.{slice_get, option_map}
use Rattle.semantics.specs.ShardPlan.{plan_at}
use Rattle.shard_core.specs.JournaledShard.{opened_shard}
use Rattle.shards.proofs.plain_opening.open_each.Given as goal

abbrev pub invariant-loop-number : goal.invariant-loop-number
invariant-loop-number l = record {
  count : length l.shards.items ≡ l.number;
  each : (number : ℕ) → number < length l.shards.items → slice_get l.shards.items number ≡ option_map opened_shard (plan_at l.maps l.options number);
}
