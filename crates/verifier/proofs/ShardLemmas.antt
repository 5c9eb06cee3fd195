-- A shard stays sound: its history stays legal, and its cells stay of bytes, whatever its map's kind; so a held cell is kept.
use Rattle.std.proofs.Common.{◌≡◌, ℕ, ◌+◌, ◌%◌, ◌<◌, ◌==◌, ◌&&◌, true, false, List, [], ◌∷◌, ◌++◌, length, take, drop, replicate, Option, Some, None, All, IsTrue, sym, subst, arith}
use Rattle.std.proofs.lemmas.Bool.{and_parts}
use Rattle.std.proofs.lemmas.List.Elements.{All-nil, All-replicate, All-set, All-append, All-push, All-take, All-drop, All-from_recursion}
use Rattle.isa.specs.InstructionCodes.{atomic_op_of}
use Rattle.ebpf_decode.specs.declared.map.MapKind.{MapKind}
use Rattle.ebpf_decode.specs.declared.map.MapKind.TheVariants.{Array, Hash, LruHash}
use Rattle.wire.specs.FrameView.{overwritten_at}
use Rattle.semantics.specs.declared.plan.ShardPlan.{ShardPlan}
use Rattle.semantics.specs.declared.call.Caller.{Caller}
use Rattle.semantics.specs.declared.call.Call.{Call}
use Rattle.semantics.specs.declared.call.Call.TheVariants.{Enter, Leave, Lookup, Load, Store, Atomic, Update, Delete, Reclaim}
use Rattle.semantics.specs.declared.call.Entry.{Entry}
use Rattle.semantics.specs.LittleEndian.{bytes_of_number}
use Rattle.semantics.specs.ShardPlan.{capacity}
use Rattle.semantics.specs.Reclamation.{holds}
use Rattle.semantics.specs.History.{shard_of_call, may_change_keys, is_own_key, is_value, are_flags, are_bytes, Meets, journal_is_full, meets_part}
use Rattle.semantics.specs.SequentialShard.{SequentialShard, opening_cells, cell_bytes, cell_of_key, number_in_cell, with_number_in_cell, changed_by, after_eviction, with_value, update_answer, delete_answer, without_found, present_key, shard_after_call, shard_after, reply_of, is_kept}
use Rattle.semantics.proofs.shared.ConditionLemmas.{tested_bytes}
use Rattle.semantics.proofs.shared.KeptLemmas.{held_is_kept}
use Rattle.semantics.proofs.shared.LawLemmas.{updated_where-keeps, same_cells_without, same_cells_evicted}
use Rattle.abstract_state.proofs.shared.ByteNumbers.{bytes_small}
use Rattle.verifier.proofs.SystemInvariant.{IsSoundShard}
use Rattle.verifier.proofs.ReplyLemmas.{AreAllBytes, cell_all}

abbrev pub AreAllCellsBytes : List (List ℕ) → Type 0
AreAllCellsBytes cells = All (All (λ byte. byte < 256)) cells

-- ---- the opening shard

opening_bytes : (kind : MapKind) (plan : ShardPlan) → AreAllCellsBytes (opening_cells kind plan)
opening_bytes Array plan =
    All-replicate (All (λ byte. byte < 256)) (capacity plan) (replicate plan.definition.value_size 0)
    (All-replicate (λ byte. byte < 256) plan.definition.value_size 0 (omega arith))
opening_bytes Hash plan = All-nil (All (λ byte. byte < 256))
opening_bytes LruHash plan = All-nil (All (λ byte. byte < 256))

pub sound_at_start : (plan : ShardPlan) → IsSoundShard plan []
sound_at_start plan = record { legal = tt; bytes = opening_bytes plan.definition.kind plan }

-- ---- what a call leaves

-- the values that a call brings are bytes
abbrev pub BringsBytes : Call → Type 0
BringsBytes (Update shard key value flags) = AreAllBytes value
BringsBytes call = Unit {0}

number_bytes : (shard : SequentialShard) (cell offset size value : ℕ) → AreAllCellsBytes shard.cells → AreAllCellsBytes (with_number_in_cell shard cell offset size value).cells
number_bytes shard cell offset size value all =
    let before : AreAllBytes (cell_bytes shard cell) = cell_all shard.cells cell all
    in let new : AreAllBytes (bytes_of_number size value) = All-from_recursion (λ byte. byte < 256) (bytes_of_number size value) (bytes_small size value)
    in let after : ℕ = offset + length (bytes_of_number size value)
    in All-set (All (λ byte. byte < 256)) shard.cells cell (overwritten_at offset (bytes_of_number size value) (cell_bytes shard cell))
    (All-append (λ byte. byte < 256) (take offset (cell_bytes shard cell) ++ bytes_of_number size value) (drop after (cell_bytes shard cell))
    (All-append (λ byte. byte < 256) (take offset (cell_bytes shard cell)) (bytes_of_number size value) (All-take (λ byte. byte < 256) offset (cell_bytes shard cell) before) new)
    (All-drop (λ byte. byte < 256) after (cell_bytes shard cell) before))
    all

value_bytes : (plan : ShardPlan) (h : List Entry) (shard : SequentialShard) (key value : List ℕ) (cell : Option ℕ) → AreAllBytes value → AreAllCellsBytes shard.cells →
    AreAllCellsBytes (with_value plan h shard key value cell).cells
value_bytes plan h shard key value (Some cell) brings all = All-set (All (λ byte. byte < 256)) shard.cells cell value brings all
value_bytes plan h shard key value None brings all =
    All-push (All (λ byte. byte < 256)) (after_eviction plan h shard).cells value (subst AreAllCellsBytes (sym (same_cells_evicted plan h shard)) all) brings

cells_after : (plan : ShardPlan) (h : List Entry) (shard : SequentialShard) (call : Call) → BringsBytes call → AreAllCellsBytes shard.cells →
    AreAllCellsBytes (shard_after_call plan h shard call).cells
cells_after plan h shard (Enter number) brings all = all
cells_after plan h shard (Leave number) brings all = all
cells_after plan h shard (Lookup number key) brings all = all
cells_after plan h shard (Load cell offset size) brings all = all
cells_after plan h shard (Store cell offset size value) brings all = number_bytes shard cell.id offset size value all
cells_after plan h shard (Atomic cell offset size op value expected) brings all =
    number_bytes shard cell.id offset size (changed_by (atomic_op_of op) size (number_in_cell shard cell.id offset size) value expected) all
cells_after plan h shard (Update number key value flags) brings all =
    updated_where-keeps (λ one. AreAllCellsBytes one.cells) (update_answer plan shard key flags) (with_value plan h shard key value (cell_of_key plan shard key)) shard
    (value_bytes plan h shard key value (cell_of_key plan shard key) brings all) all
cells_after plan h shard (Delete number key) brings all =
    updated_where-keeps (λ one. AreAllCellsBytes one.cells) (delete_answer plan shard key) (without_found shard (length h) (present_key shard key)) shard
    (subst AreAllCellsBytes (sym (same_cells_without shard (length h) (present_key shard key))) all) all
cells_after plan h shard (Reclaim number) brings all = all

-- ---- calls that are made

-- a call that its caller may make, with room in the journal
pub record IsPermitted (plan : ShardPlan) (h : List Entry) (who : Caller) (call : Call) : Type 0 where
  pub met : Meets plan h who call
  pub room : journal_is_full plan h call ≡ false

brings_bytes : (plan : ShardPlan) (h : List Entry) (who : Caller) (call : Call) → IsTrue (meets_part plan h who call) → BringsBytes call
brings_bytes plan h who (Update shard key value flags) may =
    let parts = and_parts (may_change_keys plan h who && is_own_key plan key) (is_value plan value && are_flags flags) may
    in let of_value = and_parts (is_value plan value) (are_flags flags) parts.1
    in tested_bytes value (and_parts (length value == plan.definition.value_size) (are_bytes value) of_value.0).1
brings_bytes plan h who (Enter shard) may = tt
brings_bytes plan h who (Leave shard) may = tt
brings_bytes plan h who (Lookup shard key) may = tt
brings_bytes plan h who (Load cell offset size) may = tt
brings_bytes plan h who (Store cell offset size value) may = tt
brings_bytes plan h who (Atomic cell offset size op value expected) may = tt
brings_bytes plan h who (Delete shard key) may = tt
brings_bytes plan h who (Reclaim shard) may = tt

pub sound_after : (plan : ShardPlan) (h : List Entry) (entry : Entry) → entry.reply ≡ reply_of plan h (shard_after plan h) entry.call →
    IsPermitted plan h entry.who entry.call → IsSoundShard plan h → IsSoundShard plan (entry ∷ h)
sound_after plan h entry replied permitted sound = record {
  legal = (record { step = record { met = permitted.met; replied = replied }; room = permitted.room }, sound.legal);
  bytes = cells_after plan h (shard_after plan h) entry.call
      (brings_bytes plan h entry.who entry.call (and_parts (shard_of_call entry.call == plan.number) (meets_part plan h entry.who entry.call) permitted.met).1) sound.bytes;
}

-- a held cell is not freed
pub held_cell_is_kept : (plan : ShardPlan) (h : List Entry) (worker cell : ℕ) → plan.definition.max_entries % plan.parts ≡ 0 → 0 < plan.parts → worker < 8 →
    IsSoundShard plan h → holds worker cell h ≡ true → IsTrue (is_kept plan (shard_after plan h) cell)
held_cell_is_kept plan h worker cell equal some few sound held = held_is_kept plan h worker cell equal some few sound.legal held
