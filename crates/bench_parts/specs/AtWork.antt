-- The shards that are measured.
use Rattle.std.specs.Prelude.{◌≡◌, ℕ, true, reverse}
use Rattle.ebpf_decode.specs.declared.map.MapKind.{MapKind}
use Rattle.semantics.specs.declared.plan.ShardPlan.{ShardPlan}
use Rattle.semantics.specs.Reclamation.{is_inside, holds}
use Rattle.shard_core.specs.JournaledShard.{JournaledShard}

-- the only shard of a map with keys of 4 bytes and values of 8, with room for 65536 entries
abbrev pub bench_plan : MapKind → ℕ → ShardPlan
bench_plan kind count = record {
  number = 0;
  part = 0;
  parts = 1;
  definition = record { kind = kind; key_size = 4; value_size = 8; max_entries = count };
  workers = 1;
  reserve = 65536;
}

-- worker 0 is inside of such a shard
pub record IsAtWork (shard : JournaledShard) : Type 0 where
  pub planned : shard.plan ≡ bench_plan shard.plan.definition.kind shard.plan.definition.max_entries
  pub inside : is_inside 0 (reverse shard.journal) ≡ true

-- and holds the cell
abbrev pub HoldsThere : JournaledShard → ℕ → Type 0
HoldsThere shard cell = holds 0 cell (reverse shard.journal) ≡ true
