-- Which entries a file may have. A call may be one that no map serves, as a Load of three bytes: whether an entry is legal is not asked
-- here.
use Rattle.std.specs.Prelude.{◌≡◌, ℕ, ◌/◌, ◌<◌, ◌≤◌, ◌^◌, FitsSigned, List, length, Some, IfSome, slice_get}
use Rattle.std.specs.Int.{w32}
use Rattle.ebpf_decode.specs.declared.map.MapDef.{MapDef}
use Rattle.semantics.specs.declared.call.Caller.{Caller}
use Rattle.semantics.specs.declared.call.Caller.TheVariants.{Worker}
use Rattle.semantics.specs.declared.call.CellRef.{CellRef}
use Rattle.semantics.specs.declared.call.Call.{Call}
use Rattle.semantics.specs.declared.call.Call.TheVariants.{Enter, Leave, Lookup, Load, Store, Atomic, Update, Delete, Reclaim}
use Rattle.semantics.specs.declared.call.Reply.{Reply}
use Rattle.semantics.specs.declared.call.Reply.TheVariants.{Entered, Left, Cell, Null, Word, Done, Answer, Freed}
use Rattle.semantics.specs.declared.call.Entry.{Entry}
use Rattle.semantics.specs.declared.options.Options.{Options}
use Rattle.semantics.specs.Cells.{key_of_call, value_of_call}
use Rattle.semantics.specs.History.{shard_of_call}
use Rattle.hex.specs.Hex.{IsBytes}

-- a number of 64 bits
abbrev pub IsNumber : ℕ → Type 0
IsNumber number = number < 2 ^ 64

abbrev pub IsShardNumber : ℕ → Type 0
IsShardNumber shard = shard < 2 ^ 32

abbrev pub IsCell : CellRef → Type 0
IsCell cell = IsShardNumber cell.shard × IsNumber cell.id

abbrev pub IsKey : List ℕ → Type 0
IsKey key = (length key ≤ 32) × IsBytes key

abbrev pub IsValue : List ℕ → Type 0
IsValue value = (length value ≤ 256) × IsBytes value

abbrev pub CallerFits : Caller → Type 0
CallerFits (Worker number) = number < 8
CallerFits who = Unit {0}

-- each number of the call fits its field
unfoldable pub CallFits : Call → Type 0
CallFits (Enter shard) = IsShardNumber shard
CallFits (Leave shard) = IsShardNumber shard
CallFits (Lookup shard key) = IsShardNumber shard × IsKey key
CallFits (Load cell offset size) = IsCell cell × IsNumber offset × IsNumber size
CallFits (Store cell offset size value) = IsCell cell × IsNumber offset × IsNumber size × IsNumber value
CallFits (Atomic cell offset size op value expected) =
    IsCell cell × IsNumber offset × IsNumber size × IsNumber op × IsNumber value × IsNumber expected
CallFits (Update shard key value flags) = IsShardNumber shard × IsKey key × IsValue value × IsNumber flags
CallFits (Delete shard key) = IsShardNumber shard × IsKey key
CallFits (Reclaim shard) = IsShardNumber shard

-- ---- which replies a call may have

abbrev pub IsEntered : Reply → Type 0
IsEntered Entered = Unit {0}
IsEntered reply = ⊥

abbrev pub IsLeftReply : Reply → Type 0
IsLeftReply Left = Unit {0}
IsLeftReply reply = ⊥

abbrev pub IsDoneReply : Reply → Type 0
IsDoneReply Done = Unit {0}
IsDoneReply reply = ⊥

-- a cell of the shard, or none
abbrev pub IsFinding : ℕ → Reply → Type 0
IsFinding shard (Cell cell) = (cell.shard ≡ shard) × IsNumber cell.id
IsFinding shard Null = Unit {0}
IsFinding shard reply = ⊥

abbrev pub IsWord : Reply → Type 0
IsWord (Word value) = IsNumber value
IsWord reply = ⊥

abbrev pub IsAnswerReply : Reply → Type 0
IsAnswerReply (Answer code) = FitsSigned w32 code
IsAnswerReply reply = ⊥

abbrev pub IsFreed : Reply → Type 0
IsFreed (Freed count) = IsNumber count
IsFreed reply = ⊥

unfoldable pub ReplyFits : Call → Reply → Type 0
ReplyFits (Enter shard) reply = IsEntered reply
ReplyFits (Leave shard) reply = IsLeftReply reply
ReplyFits (Lookup shard key) reply = IsFinding shard reply
ReplyFits (Load cell offset size) reply = IsWord reply
ReplyFits (Store cell offset size value) reply = IsDoneReply reply
ReplyFits (Atomic cell offset size op value expected) reply = IsWord reply
ReplyFits (Update shard key value flags) reply = IsAnswerReply reply
ReplyFits (Delete shard key) reply = IsAnswerReply reply
ReplyFits (Reclaim shard) reply = IsFreed reply

-- the entry is a call with a reply of its form
pub record EntryFits (entry : Entry) : Type 0 where
  pub who : CallerFits entry.who
  pub call : CallFits entry.call
  pub reply : ReplyFits entry.call entry.reply

-- ---- which calls the maps have room for

-- the call's key and value, where it names them, have the map's lengths
unfoldable pub HasSizesOf : MapDef → Call → Type 0
HasSizesOf definition call =
    IfSome (key_of_call call) (λ key. length key ≡ definition.key_size)
    × IfSome (value_of_call call) (λ value. length value ≡ definition.value_size)

-- the call is on a shard of one of the maps, with keys and values of its lengths
pub record IsCallOn (maps : List MapDef) (options : Options) (call : Call) : Type 0 where
  pub definition : MapDef
  pub known : slice_get maps (shard_of_call call / options.shards) ≡ Some definition
  pub sizes : HasSizesOf definition call

-- the entry is one that a file of these maps and options may have
pub record IsFileEntry (maps : List MapDef) (options : Options) (entry : Entry) : Type 0 where
  pub fits : EntryFits entry
  pub on : IsCallOn maps options entry.call
