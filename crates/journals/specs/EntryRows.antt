-- How rows and bytes make a list of entries.
use Rattle.std.specs.Prelude.{ℕ, ◌+◌, ◌≤◌, List, [], ◌++◌, length, map, unwrap_or}
use Rattle.std.specs.List.{AllByRecursion}
use Rattle.semantics.specs.declared.call.Call.{Call}
use Rattle.semantics.specs.declared.call.Call.TheVariants as calls
use Rattle.semantics.specs.declared.call.Entry.{Entry}
use Rattle.semantics.specs.Cells.{key_of_call, value_of_call}
use Rattle.journal.specs.Rows.{part}
use Rattle.journals.specs.declared.call_row.CallRow.{CallRow}
use Rattle.journals.specs.declared.call_row.CallRow.TheVariants.{Enter, Leave, Lookup, Load, Store, Atomic, Update, Delete, Reclaim}
use Rattle.journals.specs.declared.entry_list.EntryRow.{EntryRow}

-- the key of a call, and behind it its value
abbrev pub bytes_of : Call → List ℕ
bytes_of call = unwrap_or (key_of_call call) [] ++ unwrap_or (value_of_call call) []

-- the row of a call whose key and value are from this place on
abbrev pub call_row : ℕ → Call → CallRow
call_row at (calls.Enter shard) = Enter shard
call_row at (calls.Leave shard) = Leave shard
call_row at (calls.Lookup shard key) = Lookup shard (length key) at
call_row at (calls.Load cell offset size) = Load cell offset size
call_row at (calls.Store cell offset size value) = Store cell offset size value
call_row at (calls.Atomic cell offset size op value expected) = Atomic cell offset size op value expected
call_row at (calls.Update shard key value flags) = Update shard (length key) (length value) at flags
call_row at (calls.Delete shard key) = Delete shard (length key) at
call_row at (calls.Reclaim shard) = Reclaim shard

abbrev pub entry_row : ℕ → Entry → EntryRow
entry_row at entry = record { who = entry.who; call = call_row at entry.call; reply = entry.reply }

-- the call of a row, whose key and value are in the bytes
abbrev pub listed_call : List ℕ → CallRow → Call
listed_call bytes (Enter shard) = calls.Enter shard
listed_call bytes (Leave shard) = calls.Leave shard
listed_call bytes (Lookup shard key_size at) = calls.Lookup shard (part at key_size bytes)
listed_call bytes (Load cell offset size) = calls.Load cell offset size
listed_call bytes (Store cell offset size value) = calls.Store cell offset size value
listed_call bytes (Atomic cell offset size op value expected) = calls.Atomic cell offset size op value expected
listed_call bytes (Update shard key_size value_size at flags) =
    calls.Update shard (part at key_size bytes) (part (at + key_size) value_size bytes) flags
listed_call bytes (Delete shard key_size at) = calls.Delete shard (part at key_size bytes)
listed_call bytes (Reclaim shard) = calls.Reclaim shard

abbrev pub listed_entry : List ℕ → EntryRow → Entry
listed_entry bytes row = record { who = row.who; call = listed_call bytes row.call; reply = row.reply }

abbrev pub listed_entries : List ℕ → List EntryRow → List Entry
listed_entries bytes rows = map (listed_entry bytes) rows

-- the key and the value have at most the lengths that a map may give them
abbrev pub FitsRow : Call → Type 0
FitsRow (calls.Enter shard) = Unit {0}
FitsRow (calls.Leave shard) = Unit {0}
FitsRow (calls.Lookup shard key) = length key ≤ 32
FitsRow (calls.Load cell offset size) = Unit {0}
FitsRow (calls.Store cell offset size value) = Unit {0}
FitsRow (calls.Atomic cell offset size op value expected) = Unit {0}
FitsRow (calls.Update shard key value flags) = (length key ≤ 32) × (length value ≤ 256)
FitsRow (calls.Delete shard key) = length key ≤ 32
FitsRow (calls.Reclaim shard) = Unit {0}

-- the row's key and value are among the first this many bytes
abbrev pub IsWithin : ℕ → CallRow → Type 0
IsWithin count (Enter shard) = Unit {0}
IsWithin count (Leave shard) = Unit {0}
IsWithin count (Lookup shard key_size at) = (key_size ≤ 32) × (at + key_size ≤ count)
IsWithin count (Load cell offset size) = Unit {0}
IsWithin count (Store cell offset size value) = Unit {0}
IsWithin count (Atomic cell offset size op value expected) = Unit {0}
IsWithin count (Update shard key_size value_size at flags) = (key_size ≤ 32) × (value_size ≤ 256) × (at + key_size + value_size ≤ count)
IsWithin count (Delete shard key_size at) = (key_size ≤ 32) × (at + key_size ≤ count)
IsWithin count (Reclaim shard) = Unit {0}

-- so do those of each row
abbrev pub AreWithin : ℕ → List EntryRow → Type 0
AreWithin count rows = AllByRecursion (λ row. IsWithin count row.call) rows
