-- The one-thread specification of a map's shard: what each call replies, and what it leaves (bpf(2); the answers are Linux's
-- error numbers). A shard's state is a function of its history, whose newest entry is first.
use Rattle.std.specs.Prelude.{ℕ, ◌+◌, ◌*◌, ◌/◌, ◌==◌, Bool, true, false, not, ◌&&◌, ◌||◌, nat_lt, nat_le, ℤ, pos, negsuc, List, [], ◌∷◌}
use Rattle.std.specs.Prelude.{◌++◌, length, take, drop, replicate, filter, find, Option, Some, None, option_map, slice_index_or}
use Rattle.std.specs.Prelude.{slice_set, if◌then◌else◌, bytes_eq}
use Rattle.std.specs.List.{list_any}
use Rattle.isa.specs.declared.operation.AtomicOp.{AtomicOp}
use Rattle.isa.specs.Atomic.{atomic_result}
use Rattle.ebpf_decode.specs.declared.map.MapKind.{MapKind}
use Rattle.ebpf_decode.specs.declared.map.MapKind.TheVariants.{Array, Hash}
use Rattle.isa.specs.InstructionCodes.{atomic_op_of}
use Rattle.wire.specs.FrameView.{overwritten_at}
use Rattle.semantics.specs.declared.call.Call.{Call}
use Rattle.semantics.specs.declared.call.Call.TheVariants.{Enter, Leave, Lookup, Load, Store, Atomic, Update, Delete, Reclaim}
use Rattle.semantics.specs.declared.call.Reply.{Reply}
use Rattle.semantics.specs.declared.call.Reply.TheVariants.{Entered, Left, Cell, Null, Word, Done, Answer, Freed}
use Rattle.semantics.specs.declared.linux.Errno.TheVariants.{NoEntry, TooBig, NoMemory, Exists, Invalid}
use Rattle.semantics.specs.declared.linux.UpdateFlags.{UpdateFlags}
use Rattle.semantics.specs.declared.linux.UpdateFlags.TheVariants.{Any, NoExist, Exist}
use Rattle.semantics.specs.Linux.{errno_code, success, update_flags_of}
use Rattle.semantics.specs.LittleEndian.{number_of_bytes, bytes_of_number}
use Rattle.semantics.specs.ShardPlan.{ShardPlan, capacity}
use Rattle.semantics.specs.Reclamation.{RetiredCell, is_reclaimable}
use Rattle.semantics.specs.LeastRecentlyUsed.{PresentKey, least_recently_used}
use Rattle.semantics.specs.Entries.{History}

pub record SequentialShard : Type 0 where
  -- the keys that are there; of an array none, since all its indices are
  pub present : List PresentKey
  -- the bytes of each cell that was ever created, by its id
  pub cells : List (List ℕ)
  -- the cells that were retired and are not freed
  pub retired : List RetiredCell

-- ---- the opening state: an array has a cell of zeros for each of its indices

abbrev pub opening_cells : MapKind → ShardPlan → List (List ℕ)
opening_cells Array plan = replicate (capacity plan) (replicate plan.definition.value_size 0)
opening_cells kind plan = []

abbrev pub opening_shard : ShardPlan → SequentialShard
opening_shard plan = record { present = []; cells = opening_cells plan.definition.kind plan; retired = [] }

-- ---- keys

-- the cell of an array's index
abbrev pub cell_of_index : ShardPlan → ℕ → Option ℕ
cell_of_index plan index = if nat_lt index plan.definition.max_entries then Some (index / plan.parts) else None

abbrev pub cell_of_present : List PresentKey → List ℕ → Option ℕ
cell_of_present present key = option_map (λ (found : PresentKey). found.cell) (find (λ (one : PresentKey). bytes_eq one.key key) present)

abbrev pub cell_of_kind : MapKind → ShardPlan → SequentialShard → List ℕ → Option ℕ
cell_of_kind Array plan shard key = cell_of_index plan (number_of_bytes key)
cell_of_kind kind plan shard key = cell_of_present shard.present key

-- the cell that has a key's value
abbrev pub cell_of_key : ShardPlan → SequentialShard → List ℕ → Option ℕ
cell_of_key plan shard key = cell_of_kind plan.definition.kind plan shard key

-- ---- cells

abbrev pub cell_bytes : SequentialShard → ℕ → List ℕ
cell_bytes shard cell = slice_index_or shard.cells cell []

abbrev pub number_in_cell : SequentialShard → ℕ → ℕ → ℕ → ℕ
number_in_cell shard cell offset size = number_of_bytes (take size (drop offset (cell_bytes shard cell)))

abbrev pub with_cell : SequentialShard → ℕ → List ℕ → SequentialShard
with_cell shard cell bytes = record shard { cells = slice_set shard.cells cell bytes }

abbrev pub with_number_in_cell : SequentialShard → ℕ → ℕ → ℕ → ℕ → SequentialShard
with_number_in_cell shard cell offset size value =
    with_cell shard cell (overwritten_at offset (bytes_of_number size value) (cell_bytes shard cell))

abbrev pub changed_by : Option AtomicOp → ℕ → ℕ → ℕ → ℕ → ℕ
changed_by (Some op) size old value expected = atomic_result (8 * size) op old value expected
changed_by None size old value expected = old

-- ---- Update and Delete

-- each key has two cells, so that a retired one may wait for its readers
abbrev pub has_free_cell : ShardPlan → SequentialShard → Bool
has_free_cell plan shard = nat_lt (length shard.present + length shard.retired) (2 * capacity plan)

abbrev pub is_full_of_keys : ShardPlan → SequentialShard → Bool
is_full_of_keys plan shard = nat_le (capacity plan) (length shard.present)

abbrev pub is_hash : MapKind → Bool
is_hash Hash = true
is_hash kind = false

-- of a key that is there: an index of an array always is
abbrev pub present_key_answer : UpdateFlags → ℤ
present_key_answer Any = success
present_key_answer NoExist = errno_code Exists
present_key_answer Exist = success

abbrev pub array_update_answer : UpdateFlags → Option ℕ → ℤ
array_update_answer flags None = errno_code TooBig
array_update_answer flags (Some cell) = present_key_answer flags

-- of a new key: a hash shard may be full of keys, and any may have no free cell
abbrev pub new_key_answer : ShardPlan → SequentialShard → ℤ
new_key_answer plan shard =
    if is_hash plan.definition.kind && is_full_of_keys plan shard then errno_code TooBig
    else (if has_free_cell plan shard then success else errno_code NoMemory)

abbrev pub absent_key_answer : ShardPlan → SequentialShard → UpdateFlags → ℤ
absent_key_answer plan shard Any = new_key_answer plan shard
absent_key_answer plan shard NoExist = new_key_answer plan shard
absent_key_answer plan shard Exist = errno_code NoEntry

abbrev pub keyed_update_answer : ShardPlan → SequentialShard → UpdateFlags → Option ℕ → ℤ
keyed_update_answer plan shard flags (Some cell) = present_key_answer flags
keyed_update_answer plan shard flags None = absent_key_answer plan shard flags

abbrev pub update_answer_of_kind : MapKind → ShardPlan → SequentialShard → UpdateFlags → Option ℕ → ℤ
update_answer_of_kind Array plan shard flags cell = array_update_answer flags cell
update_answer_of_kind kind plan shard flags cell = keyed_update_answer plan shard flags cell

-- flags that are none of the three are refused first
abbrev pub update_answer_by : MapKind → ShardPlan → SequentialShard → Option UpdateFlags → Option ℕ → ℤ
update_answer_by kind plan shard None cell = errno_code Invalid
update_answer_by kind plan shard (Some flags) cell = update_answer_of_kind kind plan shard flags cell

abbrev pub update_answer : ShardPlan → SequentialShard → List ℕ → ℕ → ℤ
update_answer plan shard key flags =
    update_answer_by plan.definition.kind plan shard (update_flags_of flags) (cell_of_key plan shard key)

-- the shard without a key, whose cell is retired at this place of the history
abbrev pub without_key : SequentialShard → ℕ → PresentKey → SequentialShard
without_key shard place gone = record {
  present = filter (λ (one : PresentKey). not (one.cell == gone.cell)) shard.present;
  cells = shard.cells;
  retired = (record { cell = gone.cell; since = place }) ∷ shard.retired;
}

abbrev pub without_found : SequentialShard → ℕ → Option PresentKey → SequentialShard
without_found shard place (Some gone) = without_key shard place gone
without_found shard place None = shard

-- a full LRU shard evicts the key that was used longest ago
abbrev pub after_eviction : ShardPlan → History → SequentialShard → SequentialShard
after_eviction plan history shard =
    if is_full_of_keys plan shard then without_found shard (length history) (least_recently_used history shard.present) else shard

-- a new key gets the next cell
abbrev pub with_new_key : SequentialShard → List ℕ → List ℕ → SequentialShard
with_new_key shard key value = record {
  present = (record { key = key; cell = length shard.cells }) ∷ shard.present;
  cells = shard.cells ++ value ∷ [];
  retired = shard.retired;
}

abbrev pub with_value : ShardPlan → History → SequentialShard → List ℕ → List ℕ → Option ℕ → SequentialShard
with_value plan history shard key value (Some cell) = with_cell shard cell value
with_value plan history shard key value None = with_new_key (after_eviction plan history shard) key value

abbrev pub updated_where : ℤ → SequentialShard → SequentialShard → SequentialShard
updated_where (pos answer) updated shard = if answer == 0 then updated else shard
updated_where (negsuc answer) updated shard = shard

abbrev pub delete_answer_of_kind : MapKind → Option ℕ → ℤ
delete_answer_of_kind Array cell = errno_code Invalid
delete_answer_of_kind kind (Some cell) = success
delete_answer_of_kind kind None = errno_code NoEntry

-- of an array nothing can be deleted
abbrev pub delete_answer : ShardPlan → SequentialShard → List ℕ → ℤ
delete_answer plan shard key = delete_answer_of_kind plan.definition.kind (cell_of_key plan shard key)

abbrev pub present_key : SequentialShard → List ℕ → Option PresentKey
present_key shard key = find (λ (one : PresentKey). bytes_eq one.key key) shard.present

-- ---- Reclaim

abbrev pub reclaimable_cells : History → SequentialShard → List RetiredCell
reclaimable_cells history shard = filter (is_reclaimable history) shard.retired

-- ---- kept cells

-- the cell was created and is not freed: it has a present key, or waits for its readers
abbrev pub is_kept_of_kind : MapKind → SequentialShard → ℕ → Bool
is_kept_of_kind Array shard cell = nat_lt cell (length shard.cells)
is_kept_of_kind kind shard cell =
    list_any (λ (one : PresentKey). one.cell == cell) shard.present || list_any (λ (one : RetiredCell). one.cell == cell) shard.retired

abbrev pub is_kept : ShardPlan → SequentialShard → ℕ → Bool
is_kept plan shard cell = is_kept_of_kind plan.definition.kind shard cell

-- ---- replies and states

abbrev pub lookup_reply : ShardPlan → Option ℕ → Reply
lookup_reply plan (Some cell) = Cell (record { shard = plan.number; id = cell })
lookup_reply plan None = Null

-- what the call replies
abbrev pub reply_of : ShardPlan → History → SequentialShard → Call → Reply
reply_of plan history shard (Enter number) = Entered
reply_of plan history shard (Leave number) = Left
reply_of plan history shard (Lookup number key) = lookup_reply plan (cell_of_key plan shard key)
reply_of plan history shard (Load cell offset size) = Word (number_in_cell shard cell.id offset size)
reply_of plan history shard (Store cell offset size value) = Done
reply_of plan history shard (Atomic cell offset size op value expected) = Word (number_in_cell shard cell.id offset size)
reply_of plan history shard (Update number key value flags) = Answer (update_answer plan shard key flags)
reply_of plan history shard (Delete number key) = Answer (delete_answer plan shard key)
reply_of plan history shard (Reclaim number) = Freed (length (reclaimable_cells history shard))

-- what the call leaves
abbrev pub shard_after_call : ShardPlan → History → SequentialShard → Call → SequentialShard
shard_after_call plan history shard (Store cell offset size value) = with_number_in_cell shard cell.id offset size value
shard_after_call plan history shard (Atomic cell offset size op value expected) =
    with_number_in_cell shard cell.id offset size
    (changed_by (atomic_op_of op) size (number_in_cell shard cell.id offset size) value expected)
shard_after_call plan history shard (Update number key value flags) =
    updated_where (update_answer plan shard key flags) (with_value plan history shard key value (cell_of_key plan shard key)) shard
shard_after_call plan history shard (Delete number key) =
    updated_where (delete_answer plan shard key) (without_found shard (length history) (present_key shard key)) shard
shard_after_call plan history shard (Reclaim number) =
    record shard { retired = filter (λ retired. not (is_reclaimable history retired)) shard.retired }
shard_after_call plan history shard call = shard

-- the state that a history leads to
abbrev pub shard_after : ShardPlan → History → SequentialShard
shard_after plan [] = opening_shard plan
shard_after plan (entry ∷ older) = shard_after_call plan older (shard_after plan older) entry.call
