-- Which calls a shard serves, when its journal is full, and which histories are legal. A journal lists its entries in order,
-- the oldest first; a history has the newest first.
use Rattle.std.specs.Prelude.{◌≡◌, ℕ, ◌+◌, ◌%◌, ◌^◌, ◌==◌, Bool, true, false, ◌&&◌, ◌||◌, nat_lt, nat_le, List, [], ◌∷◌, length, reverse}
use Rattle.std.specs.Prelude.{is_some, if◌then◌else◌, IsTrue, IsFalse}
use Rattle.std.specs.List.{list_all}
use Rattle.isa.specs.declared.operation.AtomicOp.TheVariants.{CompareExchange}
use Rattle.semantics.specs.declared.call.Caller.{Caller}
use Rattle.semantics.specs.declared.call.Caller.TheVariants.{Worker, Controller, Reclaimer}
use Rattle.semantics.specs.declared.call.Call.{Call}
use Rattle.semantics.specs.declared.call.Reply.{Reply}
use Rattle.semantics.specs.declared.call.Call.TheVariants.{Enter, Leave, Lookup, Load, Store, Atomic, Update, Delete, Reclaim}
use Rattle.semantics.specs.declared.call.SectionChange.{SectionChange}
use Rattle.semantics.specs.declared.call.SectionChange.TheVariants.{Begins, Ends}
use Rattle.semantics.specs.declared.call.Entry.{Entry}
use Rattle.semantics.specs.Sections.{section_change}
use Rattle.semantics.specs.Program.{part_of_key}
use Rattle.semantics.specs.ShardPlan.{ShardPlan}
use Rattle.semantics.specs.Reclamation.{is_inside, holds, inside_count}
use Rattle.isa.specs.InstructionCodes.{atomic_code, atomic_op_of}
use Rattle.semantics.specs.SequentialShard.{reply_of, shard_after}
use Rattle.semantics.specs.Entries.{History, Journal}

abbrev pub entry_of : Caller → Call → Reply → Entry
entry_of who call reply = record { who = who; call = call; reply = reply }

-- ---- the caller's condition

-- the shard that a call names
abbrev pub shard_of_call : Call → ℕ
shard_of_call (Enter shard) = shard
shard_of_call (Leave shard) = shard
shard_of_call (Lookup shard key) = shard
shard_of_call (Load cell offset size) = cell.shard
shard_of_call (Store cell offset size value) = cell.shard
shard_of_call (Atomic cell offset size op value expected) = cell.shard
shard_of_call (Update shard key value flags) = shard
shard_of_call (Delete shard key) = shard
shard_of_call (Reclaim shard) = shard

-- a worker of the plan that is not inside
abbrev pub is_outside_worker : ShardPlan → History → Caller → Bool
is_outside_worker plan history (Worker number) = nat_lt number plan.workers && (if is_inside number history then false else true)
is_outside_worker plan history who = false

-- a worker of the plan that is inside
abbrev pub is_inside_worker : ShardPlan → History → Caller → Bool
is_inside_worker plan history (Worker number) = nat_lt number plan.workers && is_inside number history
is_inside_worker plan history who = false

-- a worker of the plan that holds the cell
abbrev pub is_holder : ShardPlan → History → Caller → ℕ → Bool
is_holder plan history (Worker number) cell = nat_lt number plan.workers && holds number cell history
is_holder plan history who cell = false

-- who may change keys: a worker inside, and the controller always
abbrev pub may_change_keys : ShardPlan → History → Caller → Bool
may_change_keys plan history Controller = true
may_change_keys plan history who = is_inside_worker plan history who

abbrev pub is_reclaimer : Caller → Bool
is_reclaimer Reclaimer = true
is_reclaimer who = false

-- keys and values are bytes
abbrev pub are_bytes : List ℕ → Bool
are_bytes bytes = list_all (λ byte. nat_lt byte 256) bytes

-- the key has the map's length, belongs to the shard, and is of bytes
abbrev pub is_own_key : ShardPlan → List ℕ → Bool
is_own_key plan key =
    length key == plan.definition.key_size && (part_of_key plan.definition.kind plan.parts key == plan.part && are_bytes key)

-- the value has the map's length, and is of bytes
abbrev pub is_value : ShardPlan → List ℕ → Bool
is_value plan value = length value == plan.definition.value_size && are_bytes value

-- flags are a number of 64 bits: the map answers those that it doesn't know
abbrev pub are_flags : ℕ → Bool
are_flags flags = nat_lt flags (2 ^ 64)

abbrev pub is_load_size : ℕ → Bool
is_load_size size = size == 1 || size == 2 || size == 4 || size == 8

abbrev pub is_atomic_size : ℕ → Bool
is_atomic_size size = size == 4 || size == 8

-- inside the value
abbrev pub is_in_cell : ShardPlan → ℕ → ℕ → Bool
is_in_cell plan offset size = nat_le (offset + size) plan.definition.value_size

-- an atomic operation is also at a multiple of its size
abbrev pub is_aligned : ℕ → ℕ → Bool
is_aligned offset size = offset % size == 0

abbrev pub fits_size : ℕ → ℕ → Bool
fits_size value size = nat_lt value (256 ^ size)

-- only compare-and-exchange has a number to compare with
abbrev pub is_expected : ℕ → ℕ → Bool
is_expected op expected = expected == 0 || op == atomic_code CompareExchange

abbrev pub meets_part : ShardPlan → History → Caller → Call → Bool
meets_part plan history who (Enter shard) = is_outside_worker plan history who
meets_part plan history who (Leave shard) = is_inside_worker plan history who
meets_part plan history who (Lookup shard key) = is_inside_worker plan history who && is_own_key plan key
meets_part plan history who (Load cell offset size) =
    is_holder plan history who cell.id && is_load_size size && is_in_cell plan offset size
meets_part plan history who (Store cell offset size value) =
    is_holder plan history who cell.id && is_load_size size && is_in_cell plan offset size && fits_size value size
meets_part plan history who (Atomic cell offset size op value expected) =
    is_holder plan history who cell.id && is_atomic_size size && (is_in_cell plan offset size && is_aligned offset size) &&
    is_some (atomic_op_of op) && fits_size value size && fits_size expected size && is_expected op expected
meets_part plan history who (Update shard key value flags) =
    may_change_keys plan history who && is_own_key plan key && (is_value plan value && are_flags flags)
meets_part plan history who (Delete shard key) = may_change_keys plan history who && is_own_key plan key
meets_part plan history who (Reclaim shard) = is_reclaimer who

-- the caller may make this call on this shard now
abbrev pub meets : ShardPlan → History → Caller → Call → Bool
meets plan history who call = shard_of_call call == plan.number && meets_part plan history who call

-- ---- the journal's room

-- a run that enters will need room for its Leave
abbrev pub room_for_leave : SectionChange → ℕ
room_for_leave Begins = 1
room_for_leave change = 0

-- the entries, one more for each run inside, counting one that would enter, and one for the call itself
abbrev pub room_needed : History → Call → ℕ
room_needed history call = length history + inside_count history + room_for_leave (section_change call) + 1

-- a Leave always has room, which its Enter left
abbrev pub lacks_room : SectionChange → ShardPlan → ℕ → Bool
lacks_room Ends plan needed = false
lacks_room change plan needed = nat_lt plan.reserve needed

abbrev pub journal_is_full : ShardPlan → History → Call → Bool
journal_is_full plan history call = lacks_room (section_change call) plan (room_needed history call)

-- ---- legal histories

-- the entry is one step of the one-thread shard: a call that its caller may make, with the reply
pub record IsSequentialStep (plan : ShardPlan) (history : History) (entry : Entry) : Type 0 where
  pub met : IsTrue (meets plan history entry.who entry.call)
  pub replied : entry.reply ≡ reply_of plan history (shard_after plan history) entry.call

pub record IsLegalStep (plan : ShardPlan) (history : History) (entry : Entry) : Type 0 where
  pub step : IsSequentialStep plan history entry
  pub room : IsFalse (journal_is_full plan history entry.call)

-- each entry is a step from what the older ones lead to, and none came past a full journal
abbrev pub IsLegalHistory : ShardPlan → History → Type 0
IsLegalHistory plan [] = Unit {0}
IsLegalHistory plan (entry ∷ older) = IsLegalStep plan older entry × IsLegalHistory plan older

-- a journal, whose oldest entry is first
abbrev pub IsLegalJournal : ShardPlan → Journal → Type 0
IsLegalJournal plan journal = IsLegalHistory plan (reverse journal)

abbrev pub Meets : ShardPlan → History → Caller → Call → Type 0
Meets plan history who call = IsTrue (meets plan history who call)

abbrev pub IsJournalFull : ShardPlan → History → Call → Type 0
IsJournalFull plan history call = IsTrue (journal_is_full plan history call)
