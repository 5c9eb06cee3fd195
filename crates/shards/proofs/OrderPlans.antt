-- The plans that an order knows are those of the shards.
use Rattle.std.proofs.Common.{◌≡◌, ◌<◌, ℕ, List, length, sym, ap, ◌∙◌, arith}
use Rattle.atomic_table.specs.Seated.{TableId}
use Rattle.semantics.specs.declared.plan.ShardPlan.{ShardPlan}
use Rattle.semantics.specs.Each.{Each}
use Rattle.shard_core.specs.JournaledShard.{JournaledShard}
use Rattle.shards.specs.Seats.{no_plan}
use Rattle.shards.specs.OrderRule.{plan_in}
use Rattle.shards.specs.NewShards.{NewShardView, no_shard, new_at, shard_at, IsNewShardOf}
use Rattle.semantics.proofs.shared.EachLemmas.{each_at, or_within}

pub plans_made : (shards : List JournaledShard) (order : TableId) (callers : ℕ) (found known : List ShardPlan) (all : List NewShardView) → known ≡ found → length found ≡ length shards →
    Each (λ (number : ℕ) (plan : ShardPlan). plan ≡ (shard_at shards number).plan) 0 found → length all ≡ length shards → Each (IsNewShardOf shards order callers) 0 all →
    (number : ℕ) → number < length all → plan_in known number ≡ (new_at all number).plan
plans_made shards order callers found known all same many are as_many made number below =
    ap (λ (l : List ShardPlan). plan_in l number) same
    ∙ each_at (λ (n : ℕ) (plan : ShardPlan). plan ≡ (shard_at shards n).plan) found number (plan_in found number) are (omega (arith, many, as_many, below))
    (or_within found no_plan (plan_in found number) number (omega (arith, many, as_many, below)))
    ∙ sym (each_at (IsNewShardOf shards order callers) all number (new_at all number) made below (or_within all no_shard (new_at all number) number below)).plan_is
