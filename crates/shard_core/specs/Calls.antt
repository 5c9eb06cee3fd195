-- A call on a shard, and what a call leaves that is served.
use Rattle.std.specs.Prelude.{ℕ, List, reverse}
use Rattle.semantics.specs.declared.call.Caller.{Caller}
use Rattle.semantics.specs.declared.call.Call.{Call}
use Rattle.semantics.specs.declared.call.Call.TheVariants.{Enter, Leave, Lookup, Update, Delete, Reclaim}
use Rattle.semantics.specs.declared.call.Reply.{Reply}
use Rattle.semantics.specs.History.{Meets, IsJournalFull}
use Rattle.journal.specs.declared.append.CellRange.{CellRange}
use Rattle.journal.specs.declared.append.AtomicChange.{AtomicChange}
use Rattle.journal.specs.Entries.{load_on, store_on, atomic_on}
use Rattle.shard_core.specs.JournaledShard.{JournaledShard, shard_with_entry}

-- the call of each kind on this shard

abbrev pub enter_call : JournaledShard → Call
enter_call shard = Enter shard.plan.number

abbrev pub leave_call : JournaledShard → Call
leave_call shard = Leave shard.plan.number

abbrev pub shard_lookup_call : JournaledShard → List ℕ → Call
shard_lookup_call shard key = Lookup shard.plan.number key

abbrev pub load_call : JournaledShard → CellRange → Call
load_call shard range = load_on shard.plan.number range

abbrev pub store_call : JournaledShard → CellRange → ℕ → Call
store_call shard range value = store_on shard.plan.number range value

abbrev pub shard_atomic_call : JournaledShard → CellRange → AtomicChange → Call
shard_atomic_call shard range change = atomic_on shard.plan.number range change

abbrev pub shard_update_call : JournaledShard → List ℕ → List ℕ → ℕ → Call
shard_update_call shard key value flags = Update shard.plan.number key value flags

abbrev pub shard_delete_call : JournaledShard → List ℕ → Call
shard_delete_call shard key = Delete shard.plan.number key

abbrev pub reclaim_call : JournaledShard → Call
reclaim_call shard = Reclaim shard.plan.number

-- the caller may make the call now
abbrev pub MayCallShard : JournaledShard → Caller → Call → Type 0
MayCallShard shard who call = Meets shard.plan (reverse shard.journal) who call

-- the journal has no room for the call
abbrev pub IsFullFor : JournaledShard → Call → Type 0
IsFullFor shard call = IsJournalFull shard.plan (reverse shard.journal) call

-- the shard with one entry more, of this call and its reply
abbrev pub shard_with_call : JournaledShard → Caller → Call → Reply → JournaledShard
shard_with_call shard who call reply = shard_with_entry shard (record { who = who; call = call; reply = reply })
