-- What a caller, a call and a reply name: a worker, a cell, a key, a value, a number.
use Rattle.std.specs.Prelude.{ℕ, ℤ, pos, List, Option, Some, None}
use Rattle.semantics.specs.declared.call.Caller.{Caller}
use Rattle.semantics.specs.declared.call.Caller.TheVariants.{Worker}
use Rattle.semantics.specs.declared.call.CellRef.{CellRef}
use Rattle.semantics.specs.declared.call.Call.{Call}
use Rattle.semantics.specs.declared.call.Call.TheVariants.{Lookup, Load, Store, Atomic, Update, Delete}
use Rattle.semantics.specs.declared.call.Reply.{Reply}
use Rattle.semantics.specs.declared.call.Reply.TheVariants.{Cell, Word, Answer}

-- the number of the worker that calls
abbrev pub worker_of : Caller → Option ℕ
worker_of (Worker number) = Some number
worker_of who = None

-- the cell whose bytes the call reads or writes
abbrev pub cell_of_call : Call → Option CellRef
cell_of_call (Load cell offset size) = Some cell
cell_of_call (Store cell offset size value) = Some cell
cell_of_call (Atomic cell offset size op value expected) = Some cell
cell_of_call call = None

-- the cell that a Lookup found
abbrev pub cell_of_reply : Reply → Option CellRef
cell_of_reply (Cell cell) = Some cell
cell_of_reply reply = None

-- the key that the call names
abbrev pub key_of_call : Call → Option (List ℕ)
key_of_call (Lookup shard key) = Some key
key_of_call (Update shard key value flags) = Some key
key_of_call (Delete shard key) = Some key
key_of_call call = None

-- the value that an Update sets for its key
abbrev pub value_of_call : Call → Option (List ℕ)
value_of_call (Update shard key value flags) = Some value
value_of_call call = None

-- the number that a Load or an atomic operation returned, 0 in another reply
abbrev pub word_in : Reply → ℕ
word_in (Word value) = value
word_in reply = 0

-- what an Update or a Delete answered, 0 in another reply
abbrev pub answer_in : Reply → ℤ
answer_in (Answer code) = code
answer_in reply = pos 0
