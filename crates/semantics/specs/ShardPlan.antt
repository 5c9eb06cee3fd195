-- What a shard is opened with: its place among the shards, its map, and the room of its journal.
use Rattle.std.specs.Prelude.{ℕ, ◌/◌, ◌%◌, ◌≤◌, ◌≡◌, ◌==◌, ◌⊎◌, Bool, ◌&&◌, ◌||◌, nat_le, List, Option, Some, None, All, slice_get}
use Rattle.std.specs.List.{list_all}
use Rattle.ebpf_decode.specs.declared.map.MapDef.{MapDef}
use Rattle.semantics.specs.declared.options.Options.{Options}
use Rattle.semantics.specs.declared.options.Recording.{Recording}
use Rattle.semantics.specs.declared.options.Recording.TheVariants.{Rows, NoRows}
pub use Rattle.semantics.specs.declared.plan.ShardPlan.{ShardPlan}

-- how many keys the shard may have
abbrev pub capacity : ShardPlan → ℕ
capacity plan = plan.definition.max_entries / plan.parts

abbrev pub plan_for_map : Options → ℕ → Option MapDef → Option ShardPlan
plan_for_map options number (Some definition) = Some (record {
  number = number;
  part = number % options.shards;
  parts = options.shards;
  definition = definition;
  workers = options.workers;
  reserve = options.journal;
})
plan_for_map options number None = None

-- the plan of the shard of a number: shards are in order, map after map
abbrev pub plan_at : List MapDef → Options → ℕ → Option ShardPlan
plan_at maps options number = plan_for_map options number (slice_get maps (number / options.shards))

-- a shard keeps the rows of a journal with room for at most this many entries; of a longer one it keeps none, and its entries are
-- known to proofs alone
abbrev pub keeps_rows : ℕ → Bool
keeps_rows reserve = nat_le reserve 1048576

abbrev pub KeepsRows : ℕ → Type 0
KeepsRows reserve = reserve ≤ 1048576

-- the options with which the shards of these maps can be opened, with journals whose rows are kept or not
pub record AreOptions (maps : List MapDef) (options : Options) : Type 0 where
  pub some_worker : 1 ≤ options.workers
  pub at_most_eight : options.workers ≤ 8
  pub power_of_two : (options.shards ≡ 1) ⊎ (options.shards ≡ 2) ⊎ (options.shards ≡ 4) ⊎ (options.shards ≡ 8)
  pub in_equal_parts : All (λ (definition : MapDef). definition.max_entries % options.shards ≡ 0) maps
  pub least_journal : 16 ≤ options.journal
  pub greatest_journal : options.journal ≤ 4000000000

-- with journals whose rows are kept
pub record AreServedOptions (maps : List MapDef) (options : Options) : Type 0 where
  pub fit : AreOptions maps options
  pub rows : KeepsRows options.journal

-- how many entries a journal has room for: without rows so many that the ids of cells are still below 2^32
abbrev pub room_for : Recording → ℕ → ℕ
room_for Rows journal = journal
room_for NoRows journal = 4000000000

-- the options of shards that are opened so
abbrev pub recorded : Recording → Options → Options
recorded recording options = record { workers = options.workers; shards = options.shards; journal = room_for recording options.journal }

-- and the same as a test: how many shards each map may have
abbrev pub is_shard_count : ℕ → Bool
is_shard_count count = count == 1 || count == 2 || count == 4 || count == 8

-- shards have equal parts of the map's entries
abbrev pub are_equal_parts : List MapDef → ℕ → Bool
are_equal_parts maps parts = list_all (λ (definition : MapDef). definition.max_entries % parts == 0) maps

-- the options with which the shards of these maps are opened: 1 to 8 workers, journals of 16 to 1,048,576 entries, and 1, 2, 4 or 8 shards
-- for each map that divide its entries
abbrev pub are_served_options : List MapDef → Options → Bool
are_served_options maps options =
    nat_le 1 options.workers && nat_le options.workers 8 && nat_le 16 options.journal && nat_le options.journal 1048576 &&
    is_shard_count options.shards && are_equal_parts maps options.shards
