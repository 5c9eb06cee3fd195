-- What contracts see of a shard in its slot, and of what is set once for a shard's word.
use Rattle.std.specs.Prelude.{ℕ, List}
use Rattle.atomic_table.specs.Seated.{TableId}
use Rattle.semantics.specs.declared.call.Entry.{Entry}
use Rattle.semantics.specs.declared.plan.ShardPlan.{ShardPlan}

-- the shard's plan, and the name of the order to which its deeds are added
pub record KeyedPlan : Type 0 where
  pub plan : ShardPlan
  pub order : TableId

abbrev pub keyed : ShardPlan → TableId → KeyedPlan
keyed plan order = record { plan = plan; order = order }

-- of each shard, where all have one order
abbrev pub keys : (ℕ → ShardPlan) → TableId → ℕ → KeyedPlan
keys plan order number = keyed (plan number) order

-- the shard's journal, whose oldest entry is first
pub record GuardedView : Type 0 where
  pub key : KeyedPlan
  pub journal : List Entry
