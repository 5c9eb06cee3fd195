-- Names that can always be picked where shards are opened: what a caller gives for a `Brand`.
use Rattle.std.specs.Prelude.{ℕ}
use Rattle.atomic_table.specs.Seated.{TableId}
use Rattle.semantics.specs.declared.plan.ShardPlan.{ShardPlan}
use Rattle.shards.specs.NewShards.{OpenedShards, new_at}

abbrev pub table_names : OpenedShards → ℕ → TableId
table_names opened number = (new_at opened.shards number).table

abbrev pub plan_names : OpenedShards → ℕ → ShardPlan
plan_names opened number = (new_at opened.shards number).plan

abbrev pub order_name : OpenedShards → TableId
order_name opened = opened.order
