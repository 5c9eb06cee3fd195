-- What a port serves: the calls that a run may make of it, and the words that represent cells.
use Rattle.std.specs.Prelude.{◌≡◌, ℕ, zero, suc, ◌^◌, List, [], IsTrue, slice_get}
use Rattle.isa.specs.declared.operation.AtomicOp.{AtomicOp}
use Rattle.ebpf_decode.specs.declared.map.MapDef.{MapDef}
use Rattle.isa.specs.InstructionCodes.{atomic_code}
use Rattle.semantics.specs.declared.call.CellRef.{CellRef}
use Rattle.semantics.specs.declared.call.Call.{Call}
use Rattle.semantics.specs.declared.call.Call.TheVariants.{Lookup, Atomic, Update, Delete}
use Rattle.semantics.specs.declared.call.Reply.{Reply}
use Rattle.semantics.specs.declared.call.Reply.TheVariants.{Cell, Null}
use Rattle.semantics.specs.Program.{Program, shard_in_map}
use Rattle.semantics.specs.ServedCalls.{Held, IsServedLoad, IsServedStore, IsServedAtomic}

-- ---- maps and shards

-- the maps that a port has, and how many shards each of them has
pub record Maps : Type 0 where
  pub maps : List MapDef
  pub shards : ℕ

-- as a program without instructions: calls see no more of it
abbrev pub program_over : Maps → Program
program_over served = record { code = []; maps = served.maps; shards = served.shards }

-- the shard of a key
abbrev pub served_shard : Maps → ℕ → List ℕ → ℕ
served_shard served map key = shard_in_map (slice_get served.maps map) served.shards map key

-- ---- the calls

abbrev pub lookup_call : Maps → ℕ → List ℕ → Call
lookup_call served map key = Lookup (served_shard served map key) key

abbrev pub update_call : Maps → ℕ → List ℕ → List ℕ → ℕ → Call
update_call served map key value flags = Update (served_shard served map key) key value flags

abbrev pub delete_call : Maps → ℕ → List ℕ → Call
delete_call served map key = Delete (served_shard served map key) key

abbrev pub atomic_call : CellRef → ℕ → ℕ → AtomicOp → ℕ → ℕ → Call
atomic_call cell offset size op value expected = Atomic cell offset size (atomic_code op) value expected

-- some bytes of a cell that was handed out, inside its value
abbrev pub IsReadable : Maps → Held → CellRef → ℕ → ℕ → Type 0
IsReadable served held cell offset size = IsServedLoad (program_over served) held cell offset size

-- a number that is stored there
abbrev pub IsStorable : Maps → Held → CellRef → ℕ → ℕ → ℕ → Type 0
IsStorable served held cell offset size value = IsServedStore (program_over served) held cell offset size value

-- an atomic operation there
abbrev pub IsAtomic : Maps → Held → CellRef → ℕ → ℕ → AtomicOp → ℕ → ℕ → Type 0
IsAtomic served held cell offset size op value expected =
    IsServedAtomic (program_over served) held cell offset size (atomic_code op) value expected

-- ---- handles: the numbers by which a port names the cells that it handed out

-- this number and larger ones never represent a cell: a handle leaves nine bits of a word for an offset
abbrev pub handle_limit : ℕ
handle_limit = 2 ^ 55

-- the reply of a handle: 0 is no cell
abbrev pub reply_of_handle : (ℕ → CellRef) → ℕ → Reply
reply_of_handle cell_of zero = Null
reply_of_handle cell_of (suc handle) = Cell (cell_of (suc handle))

-- what a call leaves to the port: its maps, and all that it handed out under the same handles
pub record Keeps (before after : Maps) (held held' : Held) (cell_of cell_of' : ℕ → CellRef) : Type 0 where
  pub same : after ≡ before
  pub kept : (map shard cell : ℕ) → IsTrue (held map shard cell) → IsTrue (held' map shard cell)
  pub named : (map handle : ℕ) → IsTrue (held map (cell_of handle).shard (cell_of handle).id) → cell_of' handle ≡ cell_of handle
