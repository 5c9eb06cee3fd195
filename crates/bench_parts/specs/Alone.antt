-- The shard of a single caller, which is measured beside.
use Rattle.std.specs.Prelude.{◌≡◌, ℕ, true, reverse}
use Rattle.semantics.specs.declared.plan.ShardPlan.{ShardPlan}
use Rattle.semantics.specs.Reclamation.{is_inside, holds}
use Rattle.shard_core.specs.JournaledShard.{JournaledShard}
use Rattle.bench_parts.specs.Measured.{measured_plan}

abbrev pub alone_plan : ShardPlan
alone_plan = measured_plan 0

-- worker 0 is inside of such a shard
pub record IsAlone (shard : JournaledShard) : Type 0 where
  pub planned : shard.plan ≡ alone_plan
  pub inside : is_inside 0 (reverse shard.journal) ≡ true

-- and holds the cell
abbrev pub HoldsAlone : JournaledShard → ℕ → Type 0
HoldsAlone shard cell = holds 0 cell (reverse shard.journal) ≡ true
