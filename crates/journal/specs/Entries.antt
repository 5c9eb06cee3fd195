-- The entry of each kind of call on a shard: who called, what was asked, what was replied.
use Rattle.std.specs.Prelude.{ℕ, ℤ, List, Option, Some, None}
use Rattle.semantics.specs.declared.call.Caller.{Caller}
use Rattle.semantics.specs.declared.call.Call.{Call}
use Rattle.semantics.specs.declared.call.Call.TheVariants.{Enter, Leave, Lookup, Load, Store, Atomic, Update, Delete, Reclaim}
use Rattle.semantics.specs.declared.call.Reply.{Reply}
use Rattle.semantics.specs.declared.call.Reply.TheVariants.{Entered, Left, Cell, Null, Word, Done, Answer, Freed}
use Rattle.semantics.specs.declared.call.Entry.{Entry}
use Rattle.semantics.specs.Memory.{cell_ref}
use Rattle.journal.specs.declared.append.CellRange.{CellRange}
use Rattle.journal.specs.declared.append.AtomicChange.{AtomicChange}

-- the reply to a Lookup that found this cell, or nothing
abbrev pub found_reply : ℕ → Option ℕ → Reply
found_reply shard (Some cell) = Cell (cell_ref shard cell)
found_reply shard None = Null

-- the calls on some bytes of a cell of the shard

abbrev pub load_on : ℕ → CellRange → Call
load_on shard range = Load (cell_ref shard range.cell) range.offset range.size

abbrev pub store_on : ℕ → CellRange → ℕ → Call
store_on shard range value = Store (cell_ref shard range.cell) range.offset range.size value

abbrev pub atomic_on : ℕ → CellRange → AtomicChange → Call
atomic_on shard range change = Atomic (cell_ref shard range.cell) range.offset range.size change.op change.value change.expected

-- the entries

abbrev pub enter_entry : ℕ → Caller → Entry
enter_entry shard who = record { who = who; call = Enter shard; reply = Entered }

abbrev pub leave_entry : ℕ → Caller → Entry
leave_entry shard who = record { who = who; call = Leave shard; reply = Left }

abbrev pub lookup_entry : ℕ → Caller → List ℕ → Option ℕ → Entry
lookup_entry shard who key found = record { who = who; call = Lookup shard key; reply = found_reply shard found }

abbrev pub load_entry : ℕ → Caller → CellRange → ℕ → Entry
load_entry shard who range value = record { who = who; call = load_on shard range; reply = Word value }

abbrev pub store_entry : ℕ → Caller → CellRange → ℕ → Entry
store_entry shard who range value = record { who = who; call = store_on shard range value; reply = Done }

abbrev pub atomic_entry : ℕ → Caller → CellRange → AtomicChange → ℕ → Entry
atomic_entry shard who range change old = record { who = who; call = atomic_on shard range change; reply = Word old }

abbrev pub update_entry : ℕ → Caller → List ℕ → List ℕ → ℕ → ℤ → Entry
update_entry shard who key value flags code = record { who = who; call = Update shard key value flags; reply = Answer code }

abbrev pub delete_entry : ℕ → Caller → List ℕ → ℤ → Entry
delete_entry shard who key code = record { who = who; call = Delete shard key; reply = Answer code }

abbrev pub reclaim_entry : ℕ → Caller → ℕ → Entry
reclaim_entry shard who count = record { who = who; call = Reclaim shard; reply = Freed count }
