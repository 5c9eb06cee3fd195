use Rattle.std.proofs.Common.{◌≡◌, ◌+◌, ◌≤◌, ℕ, List, length}
use Rattle.std.specs.Prelude.{vec_capacity}
use Rattle.shard_core.specs.JournaledShard.{JournaledShard}
use Rattle.semantics.specs.Each.{Each}
use Rattle.atomic_table.specs.declared.badge.Badge.{Badge}
use Rattle.shards.specs.declared.deeds.Account.{Account}
use Rattle.shards.specs.declared.deeds.OrderPart.TheVariants.{OnShard}
use Rattle.shards.specs.OrderRule.{IsFresh}
use Rattle.shards.specs.NewShards.{shard_at, IsUnusedShard, IsNewShardOf}
use Rattle.shards.proofs.opening.new_shards.Given as goal

pub record Made (l : goal.Live-shards) : Type 0 where
  pub made : Each (IsNewShardOf l.fn.shards.items l.order.shared.table_id l.callers) 0 l.all.items
  pub counted : length l.all.items ≡ l._number
  pub left : Each (λ (number : ℕ) (shard : JournaledShard). (shard ≡ shard_at l.fn.shards.items number) × (IsUnusedShard shard × (shard.plan.number ≡ number))) l._number l.shards.items
  pub seats : Each (λ (number : ℕ) (place : Badge (List Account)). IsFresh l.order.shared.table_id (OnShard number) place) l._number l.places.items
  pub as_many : l._number + length l.places.items ≡ length l.fn.shards.items
  pub together : l._number + length l.shards.items ≡ length l.fn.shards.items
  pub count_is : l.count ≡ length l.fn.shards.items
  pub room : l.count ≤ vec_capacity l.all

abbrev pub invariant-shards : goal.invariant-shards
invariant-shards l = Made l
