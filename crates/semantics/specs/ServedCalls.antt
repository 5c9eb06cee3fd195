-- Calls of maps that a run may make, by the maps that the program has and the cells that are held; and what a reply hands out.
use Rattle.std.specs.Prelude.{◌≡◌, ℕ, ◌+◌, ◌%◌, ◌^◌, ◌<◌, ◌≤◌, Bool, List, length, All, IsTrue, Some, slice_get, is_some}
use Rattle.isa.specs.InstructionCodes.{atomic_op_of}
use Rattle.ebpf_decode.specs.declared.map.MapDef.{MapDef}
use Rattle.semantics.specs.declared.call.CellRef.{CellRef}
use Rattle.semantics.specs.declared.call.Call.{Call}
use Rattle.semantics.specs.declared.call.Call.TheVariants.{Lookup, Load, Store, Atomic, Update, Delete}
use Rattle.semantics.specs.declared.call.Reply.{Reply}
use Rattle.semantics.specs.declared.call.Reply.TheVariants.{Cell}
use Rattle.semantics.specs.Program.{Program, shard_of_key, value_size_of}
use Rattle.semantics.specs.History.{is_load_size, is_atomic_size, is_expected}

-- which cells are held, by map, shard and cell id
abbrev pub Held : Type 0
Held = ℕ → ℕ → ℕ → Bool

-- a key of a map that there is
pub record IsKeyOf (maps : List MapDef) (map : ℕ) (key : List ℕ) : Type 0 where
  pub definition : MapDef
  pub known : slice_get maps map ≡ Some definition
  pub key_size : length key ≡ definition.key_size
  pub bytes : All (λ byte. byte < 256) key

-- with a value of that map
pub record IsPairOf (maps : List MapDef) (map : ℕ) (key value : List ℕ) : Type 0 where
  pub at : IsKeyOf maps map key
  pub value_size : length value ≡ at.definition.value_size
  pub value_bytes : All (λ byte. byte < 256) value

-- a lookup of a key of a map that the program has, in the key's shard
pub record IsServedLookup (program : Program) (shard : ℕ) (key : List ℕ) : Type 0 where
  pub map : ℕ
  pub of_map : IsKeyOf program.maps map key
  pub own : shard ≡ shard_of_key map of_map.definition.kind program.shards key

-- a load from a cell that is held, inside its value
pub record IsServedLoad (program : Program) (held : Held) (cell : CellRef) (offset size : ℕ) : Type 0 where
  pub map : ℕ
  pub holds : IsTrue (held map cell.shard cell.id)
  pub is_size : IsTrue (is_load_size size)
  pub inside : offset + size ≤ value_size_of (slice_get program.maps map)

-- a store of a number of the size to such a place
pub record IsServedStore (program : Program) (held : Held) (cell : CellRef) (offset size value : ℕ) : Type 0 where
  pub at : IsServedLoad program held cell offset size
  pub fits : value < 256 ^ size

-- an atomic operation on a cell that is held, inside its value and at a multiple of its size; only compare-and-exchange has a number
-- to compare with
pub record IsServedAtomic (program : Program) (held : Held) (cell : CellRef) (offset size op value expected : ℕ) : Type 0 where
  pub map : ℕ
  pub holds : IsTrue (held map cell.shard cell.id)
  pub is_size : IsTrue (is_atomic_size size)
  pub inside : offset + size ≤ value_size_of (slice_get program.maps map)
  pub aligned : offset % size ≡ 0
  pub known : IsTrue (is_some (atomic_op_of op))
  pub fits : value < 256 ^ size
  pub expected_fits : expected < 256 ^ size
  pub compares : IsTrue (is_expected op expected)

-- an update of such a key with a value of the map's size; the map answers flags that it doesn't know
pub record IsServedUpdate (program : Program) (shard : ℕ) (key value : List ℕ) (flags : ℕ) : Type 0 where
  pub map : ℕ
  pub of_map : IsPairOf program.maps map key value
  pub own : shard ≡ shard_of_key map of_map.at.definition.kind program.shards key
  pub small_flags : flags < 2 ^ 64

abbrev pub IsServed : Program → Held → Call → Type 0
IsServed program held (Lookup shard key) = IsServedLookup program shard key
IsServed program held (Load cell offset size) = IsServedLoad program held cell offset size
IsServed program held (Store cell offset size value) = IsServedStore program held cell offset size value
IsServed program held (Atomic cell offset size op value expected) = IsServedAtomic program held cell offset size op value expected
IsServed program held (Update shard key value flags) = IsServedUpdate program shard key value flags
IsServed program held (Delete shard key) = IsServedLookup program shard key
IsServed program held call = ⊥

-- a lookup lets the worker hold the cell that it found
abbrev pub IsHandedOut : Program → Held → Call → Reply → Type 0
IsHandedOut program held (Lookup shard key) (Cell cell) =
    (map : ℕ) (definition : MapDef) → slice_get program.maps map ≡ Some definition →
    shard ≡ shard_of_key map definition.kind program.shards key → IsTrue (held map cell.shard cell.id)
IsHandedOut program held call reply = Unit {0}

-- a call hands out what it found, and nothing that was held is let go
pub record HoldsAfter (program : Program) (held held' : Held) (call : Call) (reply : Reply) : Type 0 where
  pub kept : (map shard cell : ℕ) → IsTrue (held map shard cell) → IsTrue (held' map shard cell)
  pub handed_out : IsHandedOut program held' call reply
