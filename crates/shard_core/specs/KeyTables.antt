-- Which key of a shard has which cell, by the kind of its map.
use Rattle.std.specs.Prelude.{◌≡◌, ℕ, ◌+◌, ◌%◌, ◌<◌, ◌≤◌, Bool, nat_le, List, [], length, Option, Some, None, option_map, cond, is_some}
use Rattle.std.specs.Prelude.{if◌then◌else◌, bytes_eq}
use Rattle.ebpf_decode.specs.declared.map.MapKind.TheVariants.{Array, Hash, LruHash}
use Rattle.semantics.specs.declared.call.Entry.{Entry}
use Rattle.semantics.specs.declared.plan.PresentKey.{PresentKey}
use Rattle.semantics.specs.LittleEndian.{number_of_bytes}
use Rattle.semantics.specs.declared.plan.ShardPlan.{ShardPlan}
use Rattle.semantics.specs.ShardPlan.{capacity}
use Rattle.semantics.specs.SequentialShard.{cell_of_present}
use Rattle.plain_maps.specs.ArrayTable.{cell_of_array_index, cell_in_part}
use Rattle.plain_maps.specs.HashTable.{HashTable, cell_of}
use Rattle.lru_maps.specs.LruTable.{LruTable, cell_of_lru_key, touched, with_newest_key, table_without_key, victim, without_victim}
use Rattle.lru_maps.specs.ByUse.{IsByUse}
use Rattle.shard_core.specs.declared.keys.KeyTable.{KeyTable}
use Rattle.shard_core.specs.declared.keys.KeyTable.TheVariants.{Indices, Hashed, Recent}

-- the cell of a key
abbrev pub cell_in : KeyTable → List ℕ → Option ℕ
cell_in (Indices indices) key = cell_of_array_index indices.max_entries indices.parts (number_of_bytes key)
cell_in (Hashed keys) key = cell_of keys key
cell_in (Recent keys) key = cell_of_lru_key keys key

-- the cell of a key that is there: of an array a key of this part
abbrev pub cell_there : KeyTable → ℕ → List ℕ → Option ℕ
cell_there (Indices indices) part key = cell_in_part indices.max_entries indices.parts part key
cell_there (Hashed keys) part key = cell_of keys key
cell_there (Recent keys) part key = cell_of_lru_key keys key

-- all keys may be listed: an array's parts are alike, and other keys are short
abbrev pub CanBeListed : KeyTable → ℕ → Type 0
CanBeListed (Indices indices) part = (part < indices.parts) × (indices.max_entries % indices.parts ≡ 0)
CanBeListed (Hashed keys) part = keys.size ≤ 32
CanBeListed (Recent keys) part = Unit {0}

-- how many keys are there; of an array none is counted
abbrev pub key_count : KeyTable → ℕ
key_count (Indices indices) = 0
key_count (Hashed keys) = length keys.entries
key_count (Recent keys) = length keys.entries

-- how many bytes a key has that may be asked for
abbrev pub IsAskedSize : KeyTable → ℕ → Type 0
IsAskedSize (Indices indices) size = size ≤ 8
IsAskedSize (Hashed keys) size = size ≡ keys.size
IsAskedSize (Recent keys) size = size ≡ keys.size

-- the table is one for the shard's plan
abbrev pub FitsPlan : KeyTable → ShardPlan → Type 0
FitsPlan (Indices indices) plan =
    (plan.definition.kind ≡ Array) × (indices.max_entries ≡ plan.definition.max_entries) × (indices.parts ≡ plan.parts)
FitsPlan (Hashed keys) plan =
    (plan.definition.kind ≡ Hash) × (keys.size ≡ plan.definition.key_size) × (keys.capacity ≡ capacity plan)
FitsPlan (Recent keys) plan =
    (plan.definition.kind ≡ LruHash) × (keys.size ≡ plan.definition.key_size) × (keys.capacity ≡ capacity plan)

-- its keys are those that are present after this history, each with its cell; an array's indices are always there, and those of an LRU map
-- are in the order of their last uses
abbrev pub HasKeys : KeyTable → List Entry → List PresentKey → Type 0
HasKeys (Indices indices) history present = present ≡ []
HasKeys (Hashed keys) history present =
    (length keys.entries ≡ length present) × ((key : List ℕ) → cell_of keys key ≡ cell_of_present present key)
HasKeys (Recent keys) history present = IsByUse history present keys.entries

-- keys come and go
abbrev pub IsKeyed : KeyTable → Type 0
IsKeyed (Indices indices) = ⊥
IsKeyed (Hashed keys) = Unit {0}
IsKeyed (Recent keys) = Unit {0}

-- there may be one more key now
abbrev pub HasRoomForKey : KeyTable → Type 0
HasRoomForKey (Indices indices) = ⊥
HasRoomForKey (Hashed keys) = length keys.entries < keys.capacity
HasRoomForKey (Recent keys) = length keys.entries < keys.capacity

-- or once the key is gone that was used longest ago
abbrev pub MayGrow : KeyTable → Type 0
MayGrow (Indices indices) = ⊥
MayGrow (Hashed keys) = length keys.entries < keys.capacity
MayGrow (Recent keys) = Unit {0}

-- ---- changes

-- a key was used: of an LRU map it is first, if it is there
abbrev pub touched_in : List ℕ → KeyTable → KeyTable
touched_in key (Indices indices) = Indices indices
touched_in key (Hashed keys) = Hashed keys
touched_in key (Recent keys) = Recent (touched key keys)

abbrev pub is_full_of : LruTable → Bool
is_full_of keys = nat_le keys.capacity (length keys.entries)

-- the cell of the key that a full LRU map gives up for a new one
abbrev pub victim_cell : KeyTable → Option ℕ
victim_cell (Indices indices) = None
victim_cell (Hashed keys) = None
victim_cell (Recent keys) = if is_full_of keys then option_map (λ entry. entry.1) (victim keys) else None

-- the keys without it
abbrev pub without_victim_in : KeyTable → KeyTable
without_victim_in (Indices indices) = Indices indices
without_victim_in (Hashed keys) = Hashed keys
without_victim_in (Recent keys) = Recent (if is_full_of keys then without_victim keys else keys)

-- a new key got this cell; of an LRU map it is first
abbrev pub IsInsertedInto : List ℕ → ℕ → HashTable → KeyTable → Type 0
IsInsertedInto key id old (Hashed new) =
    (new.size ≡ old.size) × (new.capacity ≡ old.capacity) × (length new.entries ≡ length old.entries + 1)
    × ((q : List ℕ) → cell_of new q ≡ cond (bytes_eq key q) (Some id) (cell_of old q))
IsInsertedInto key id old new = ⊥

abbrev pub IsInserted : List ℕ → ℕ → KeyTable → KeyTable → Type 0
IsInserted key id (Indices old) new = ⊥
IsInserted key id (Hashed old) new = IsInsertedInto key id old new
IsInserted key id (Recent old) new = new ≡ Recent (with_newest_key key id old)

-- a key is there no more
abbrev pub IsRemovedFrom : List ℕ → HashTable → KeyTable → Type 0
IsRemovedFrom key old (Hashed new) =
    (new.size ≡ old.size) × (new.capacity ≡ old.capacity)
    × (length new.entries + (if is_some (cell_of old key) then 1 else 0) ≡ length old.entries)
    × ((q : List ℕ) → cell_of new q ≡ cond (bytes_eq key q) None (cell_of old q))
IsRemovedFrom key old new = ⊥

abbrev pub IsRemoved : List ℕ → KeyTable → KeyTable → Type 0
IsRemoved key (Indices old) new = ⊥
IsRemoved key (Hashed old) new = IsRemovedFrom key old new
IsRemoved key (Recent old) new = new ≡ Recent (table_without_key key old)
