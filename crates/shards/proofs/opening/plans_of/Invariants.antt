use Rattle.std.proofs.Common.{◌≡◌, ◌≤◌, ℕ, length}
use Rattle.std.specs.Prelude.{vec_capacity}
use Rattle.semantics.specs.declared.plan.ShardPlan.{ShardPlan}
use Rattle.semantics.specs.Each.{Each}
use Rattle.shards.specs.NewShards.{shard_at}
use Rattle.shards.proofs.opening.plans_of.Given as goal

pub record Copied (l : goal.Live-plans) : Type 0 where
  pub counted : length l.plans.items ≡ l.number
  pub end_is : l.number-end ≡ length l.shards
  pub room : length l.shards ≤ vec_capacity l.plans
  pub are : Each (λ (number : ℕ) (plan : ShardPlan). plan ≡ (shard_at l.shards number).plan) 0 l.plans.items

abbrev pub invariant-plans : goal.invariant-plans
invariant-plans l = Copied l
