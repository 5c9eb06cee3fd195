-- The journals of all shards of an image's maps, with the maps and the options that the shards were opened with.
use Rattle.std.specs.Prelude.{◌≡◌, ◌≤◌, ℕ, ◌*◌, List, [], length, slice_index_or}
use Rattle.std.specs.List.{AllByRecursion}
use Rattle.ebpf_decode.specs.declared.map.MapDef.{MapDef}
use Rattle.ebpf_decode.specs.declared.version.Version.TheVariants.{V2}
use Rattle.ebpf_decode.specs.ImageContents.{IsAllowedMap}
use Rattle.semantics.specs.declared.call.Entry.{Entry}
use Rattle.semantics.specs.declared.options.Options.{Options}
use Rattle.semantics.specs.ShardPlan.{AreOptions}
use Rattle.semantics.specs.Entries.{Journal}

pub record JournalsView : Type 0 where
  pub maps : List MapDef
  pub options : Options
  -- of each shard, by its number, the entries with the oldest first
  pub shards : List (List Entry)

-- maps that an image may have: those of version 2, which include all of version 1
pub record AreImageMaps (maps : List MapDef) : Type 0 where
  pub few : length maps ≤ 16
  pub allowed : AllByRecursion (IsAllowedMap V2) maps

-- this many journals: one for each shard of such maps, which these options open
pub record AreJournals (maps : List MapDef) (options : Options) (count : ℕ) : Type 0 where
  pub maps_are : AreImageMaps maps
  pub options_fit : AreOptions maps options
  pub one_each : count ≡ length maps * options.shards

-- the entries of the shard of this number
abbrev pub entries_at : JournalsView → ℕ → Journal
entries_at journals number = slice_index_or journals.shards number []
