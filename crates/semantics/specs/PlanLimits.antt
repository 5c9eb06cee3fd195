-- What the plan of a shard is, whatever its map's kind: sizes that the image format allows, a part of the map's entries as large as
-- every other, 1 to 8 workers, and a journal of 16 to 4,000,000,000 entries.
use Rattle.std.specs.Prelude.{◌≡◌, ℕ, ◌%◌, ◌<◌, ◌≤◌, List, Some}
use Rattle.std.specs.List.{AllByRecursion}
use Rattle.ebpf_decode.specs.declared.map.MapKind.{MapKind}
use Rattle.ebpf_decode.specs.declared.map.MapKind.TheVariants.{Array}
use Rattle.ebpf_decode.specs.declared.map.MapDef.{MapDef}
use Rattle.semantics.specs.declared.options.Options.{Options}
use Rattle.semantics.specs.ShardPlan.{ShardPlan, plan_at, AreOptions}

-- an array's key is an index of 4 bytes
abbrev pub IsIndexSize : MapKind → ℕ → Type 0
IsIndexSize Array size = size ≡ 4
IsIndexSize kind size = Unit {0}

pub record IsWithinLimits (plan : ShardPlan) : Type 0 where
  pub key_size : plan.definition.key_size ≤ 32
  pub index_size : IsIndexSize plan.definition.kind plan.definition.key_size
  pub value_size : plan.definition.value_size ≤ 256
  pub some_part : 0 < plan.parts

-- no larger than the image format allows a map
pub record HasImageSizes (definition : MapDef) : Type 0 where
  pub key_size : definition.key_size ≤ 32
  pub index_size : IsIndexSize definition.kind definition.key_size
  pub value_size : definition.value_size ≤ 256
  pub some_entries : 1 ≤ definition.max_entries
  pub most_entries : definition.max_entries ≤ 131072

-- a shard's plan, for every kind of map
pub record IsPlan (plan : ShardPlan) : Type 0 where
  pub limits : IsWithinLimits plan
  pub some_entries : 1 ≤ plan.definition.max_entries
  pub most_entries : plan.definition.max_entries ≤ 131072
  pub part : plan.part < plan.parts
  pub equal_parts : plan.definition.max_entries % plan.parts ≡ 0
  pub some_worker : 1 ≤ plan.workers
  pub at_most_eight : plan.workers ≤ 8
  pub least_reserve : 16 ≤ plan.reserve
  pub greatest_reserve : plan.reserve ≤ 4000000000

-- each shard of maps of the image format, opened with options that fit them, has such a plan
abbrev pub ShardsHavePlans : Type 0
ShardsHavePlans =
    (maps : List MapDef) (options : Options) (number : ℕ) (plan : ShardPlan) → AllByRecursion HasImageSizes maps → AreOptions maps options →
    plan_at maps options number ≡ Some plan → IsPlan plan
