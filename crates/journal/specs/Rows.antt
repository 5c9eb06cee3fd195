-- How rows, bytes and words make the entries of a journal.
use Rattle.std.specs.Prelude.{ℕ, ◌+◌, ◌*◌, ◌<◌, ◌≤◌, List, length, take, drop, map, slice_index_or}
use Rattle.std.specs.List.{AllByRecursion}
use Rattle.semantics.specs.declared.call.Caller.{Caller}
use Rattle.semantics.specs.declared.call.Call.{Call}
use Rattle.semantics.specs.declared.call.Call.TheVariants.{Enter, Leave, Lookup, Load, Store, Atomic, Update, Delete, Reclaim}
use Rattle.semantics.specs.declared.call.Reply.{Reply}
use Rattle.semantics.specs.declared.call.Reply.TheVariants as R
use Rattle.semantics.specs.declared.call.Entry.{Entry}
use Rattle.journal.specs.declared.row.Row.{Row}
use Rattle.journal.specs.declared.row.Row.TheVariants.{Entered, Left, Found, Missed, Loaded, Stored, Changed, Updated, Deleted, Reclaimed}
use Rattle.journal.specs.Journaled.{Journaled}
use Rattle.semantics.specs.Memory.{cell_ref}
use Rattle.semantics.specs.ShardPlan.{KeepsRows}

-- this many bytes from a place on
abbrev pub part : ℕ → ℕ → List ℕ → List ℕ
part at size bytes = take size (drop at bytes)

-- the number at a place
abbrev pub word : List ℕ → ℕ → ℕ
word words at = slice_index_or words at 0

abbrev pub who_of : Row → Caller
who_of (Entered who) = who
who_of (Left who) = who
who_of (Found who at start) = who
who_of (Missed who at) = who
who_of (Loaded who size offset start) = who
who_of (Stored who size offset start) = who
who_of (Changed who size op offset start) = who
who_of (Updated who code start) = who
who_of (Deleted who code at) = who
who_of (Reclaimed who start) = who

-- an Update whose key, with its value behind it, is in the bytes from this place on
abbrev pub update_at : ℕ → ℕ → ℕ → List ℕ → ℕ → ℕ → Call
update_at shard key_size value_size bytes at flags = Update shard (part at key_size bytes) (part (at + key_size) value_size bytes) flags

-- the call, whose key and value are in the bytes, and whose numbers are in the words
abbrev pub call_of_row : ℕ → ℕ → ℕ → List ℕ → List ℕ → Row → Call
call_of_row shard key_size value_size bytes words (Entered who) = Enter shard
call_of_row shard key_size value_size bytes words (Left who) = Leave shard
call_of_row shard key_size value_size bytes words (Found who at start) = Lookup shard (part at key_size bytes)
call_of_row shard key_size value_size bytes words (Missed who at) = Lookup shard (part at key_size bytes)
call_of_row shard key_size value_size bytes words (Loaded who size offset start) = Load (cell_ref shard (word words (start + 0))) offset size
call_of_row shard key_size value_size bytes words (Stored who size offset start) =
    Store (cell_ref shard (word words (start + 0))) offset size (word words (start + 1))
call_of_row shard key_size value_size bytes words (Changed who size op offset start) =
    Atomic (cell_ref shard (word words (start + 0))) offset size op (word words (start + 1)) (word words (start + 2))
call_of_row shard key_size value_size bytes words (Updated who code start) =
    update_at shard key_size value_size bytes (word words (start + 0)) (word words (start + 1))
call_of_row shard key_size value_size bytes words (Deleted who code at) = Delete shard (part at key_size bytes)
call_of_row shard key_size value_size bytes words (Reclaimed who start) = Reclaim shard

abbrev pub reply_of_row : ℕ → List ℕ → Row → Reply
reply_of_row shard words (Entered who) = R.Entered
reply_of_row shard words (Left who) = R.Left
reply_of_row shard words (Found who at start) = R.Cell (cell_ref shard (word words (start + 0)))
reply_of_row shard words (Missed who at) = R.Null
reply_of_row shard words (Loaded who size offset start) = R.Word (word words (start + 1))
reply_of_row shard words (Stored who size offset start) = R.Done
reply_of_row shard words (Changed who size op offset start) = R.Word (word words (start + 3))
reply_of_row shard words (Updated who code start) = R.Answer code
reply_of_row shard words (Deleted who code at) = R.Answer code
reply_of_row shard words (Reclaimed who start) = R.Freed (word words (start + 0))

-- the entry that a row, the journal's bytes and its words make
abbrev pub entry_of_row : ℕ → ℕ → ℕ → List ℕ → List ℕ → Row → Entry
entry_of_row shard key_size value_size bytes words row =
    record { who = who_of row; call = call_of_row shard key_size value_size bytes words row; reply = reply_of_row shard words row }

-- the row's words are among these
abbrev pub AreWordsWithin : List ℕ → Row → Type 0
AreWordsWithin words (Entered who) = Unit {0}
AreWordsWithin words (Left who) = Unit {0}
AreWordsWithin words (Found who at start) = start + 0 < length words
AreWordsWithin words (Missed who at) = Unit {0}
AreWordsWithin words (Loaded who size offset start) = start + 1 < length words
AreWordsWithin words (Stored who size offset start) = start + 1 < length words
AreWordsWithin words (Changed who size op offset start) = start + 3 < length words
AreWordsWithin words (Updated who code start) = start + 1 < length words
AreWordsWithin words (Deleted who code at) = Unit {0}
AreWordsWithin words (Reclaimed who start) = start + 0 < length words

-- the row's key and value are among the first `count` bytes
abbrev pub AreBytesWithin : ℕ → ℕ → ℕ → List ℕ → Row → Type 0
AreBytesWithin key_size value_size count words (Entered who) = Unit {0}
AreBytesWithin key_size value_size count words (Left who) = Unit {0}
AreBytesWithin key_size value_size count words (Found who at start) = at + key_size ≤ count
AreBytesWithin key_size value_size count words (Missed who at) = at + key_size ≤ count
AreBytesWithin key_size value_size count words (Loaded who size offset start) = Unit {0}
AreBytesWithin key_size value_size count words (Stored who size offset start) = Unit {0}
AreBytesWithin key_size value_size count words (Changed who size op offset start) = Unit {0}
AreBytesWithin key_size value_size count words (Updated who code start) = word words (start + 0) + key_size + value_size ≤ count
AreBytesWithin key_size value_size count words (Deleted who code at) = at + key_size ≤ count
AreBytesWithin key_size value_size count words (Reclaimed who start) = Unit {0}

abbrev pub IsRowWithin : ℕ → ℕ → ℕ → List ℕ → Row → Type 0
IsRowWithin key_size value_size count words row = AreWordsWithin words row × AreBytesWithin key_size value_size count words row

-- the row has neither key nor value nor number
abbrev pub IsBare : Row → Type 0
IsBare (Entered who) = Unit {0}
IsBare (Left who) = Unit {0}
IsBare (Found who at start) = ⊥
IsBare (Missed who at) = ⊥
IsBare (Loaded who size offset start) = ⊥
IsBare (Stored who size offset start) = ⊥
IsBare (Changed who size op offset start) = ⊥
IsBare (Updated who code start) = ⊥
IsBare (Deleted who code at) = ⊥
IsBare (Reclaimed who start) = ⊥

-- what the fields of a journal represent
abbrev pub journaled : ℕ → ℕ → ℕ → ℕ → List Row → List ℕ → List ℕ → Journaled
journaled shard reserve key_size value_size rows bytes words = record {
  shard = shard;
  reserve = reserve;
  key_size = key_size;
  value_size = value_size;
  entries = map (entry_of_row shard key_size value_size bytes words) rows;
}

-- the rows read within the bytes and the words, and the rooms last for the reserve
pub record IsKept (reserve key_size value_size : ℕ) (rows : List Row) (row_room : ℕ) (bytes : List ℕ) (byte_room : ℕ)
    (words : List ℕ) (word_room : ℕ) : Type 0 where
  pub few : KeepsRows reserve
  pub key : key_size ≤ 32
  pub value : value_size ≤ 256
  pub within : AllByRecursion (IsRowWithin key_size value_size (length bytes) words) rows
  -- no row took more bytes than one key and one value, nor more than four words
  pub used : length bytes ≤ length rows * (key_size + value_size)
  pub words_used : length words ≤ length rows * 4
  pub rows_fit : reserve ≤ row_room
  pub bytes_fit : reserve * (key_size + value_size) ≤ byte_room
  pub words_fit : reserve * 4 ≤ word_room
