-- The entries of journals, however they are kept.
use Rattle.std.specs.Prelude.{◌≡◌, ℕ, List, Some, map, slice_get}
use Rattle.ebpf_decode.specs.declared.map.MapDef.{MapDef}
use Rattle.semantics.specs.declared.call.Entry.{Entry}
use Rattle.semantics.specs.declared.options.Options.{Options}
use Rattle.semantics.specs.ShardPlan.{KeepsRows, plan_at}
use Rattle.shard_core.specs.JournaledShard.{JournaledShard}
use Rattle.journals.specs.declared.shard_journal.ShardEntries.{ShardEntries}
use Rattle.journals.specs.declared.shard_journal.ShardEntries.TheVariants as one
use Rattle.journals.specs.declared.all.AllKept.{AllKept}
use Rattle.journals.specs.declared.all.AllKept.TheVariants as all

-- of one shard

abbrev pub kept_entries : ShardEntries → List Entry
kept_entries (one.Written journal) = journal.now.entries
kept_entries (one.Listed entries) = entries.now

-- its rows are kept
abbrev pub KeepsItsRows : ShardEntries → Type 0
KeepsItsRows (one.Written journal) = KeepsRows journal.now.reserve
KeepsItsRows (one.Listed entries) = Unit {0}

-- of all shards, by their numbers

abbrev pub written_entries : List JournaledShard → List (List Entry)
written_entries shards = map (λ (shard : JournaledShard). shard.journal) shards

abbrev pub all_kept : AllKept → List (List Entry)
all_kept (all.Written shards) = written_entries shards.items
all_kept (all.Listed lists) = lists.items

-- each is the shard of its number of these maps
abbrev pub ArePlanned : List MapDef → Options → List JournaledShard → Type 0
ArePlanned maps options shards =
    (number : ℕ) (shard : JournaledShard) → slice_get shards number ≡ Some shard → plan_at maps options number ≡ Some shard.plan

abbrev pub AreKeptFor : List MapDef → Options → AllKept → Type 0
AreKeptFor maps options (all.Written shards) = ArePlanned maps options shards.items
AreKeptFor maps options (all.Listed lists) = Unit {0}
