-- The cells of a legal history hold bytes, so a number that is read in one has its size.
use Rattle.std.proofs.Common.{◌≡◌, ℕ, zero, suc, ◌+◌, ◌/◌, ◌^◌, ◌<◌, ◌≤◌, ◌&&◌, List, [], ◌∷◌, ◌++◌, length, take, drop, replicate, Option, Some, None, IsTrue, true}
use Rattle.std.proofs.Common.{arith, lit<}
use Rattle.std.specs.Prelude.{◌==◌, slice_set, slice_index_or}
use Rattle.std.specs.List.{AllByRecursion}
use Rattle.std.proofs.Math.Nat.{mod-lt, pow-le-pow_right}
use Rattle.std.proofs.lemmas.List.{length-take}
use Rattle.std.proofs.lemmas.List.Elements.{recursion_from_All}
use Rattle.ebpf_decode.specs.declared.map.MapKind.{MapKind}
use Rattle.ebpf_decode.specs.declared.map.MapKind.TheVariants.{Array, Hash, LruHash}
use Rattle.semantics.specs.declared.call.Caller.{Caller}
use Rattle.semantics.specs.declared.call.Call.{Call}
use Rattle.semantics.specs.declared.call.Call.TheVariants.{Enter, Leave, Lookup, Load, Store, Atomic, Update, Delete, Reclaim}
use Rattle.semantics.specs.declared.call.Entry.{Entry}
use Rattle.semantics.specs.declared.plan.ShardPlan.{ShardPlan}
use Rattle.semantics.specs.declared.plan.PresentKey.{PresentKey}
use Rattle.semantics.specs.LittleEndian.{number_of_bytes, bytes_of_number}
use Rattle.semantics.specs.ByteCells.{AreBytes, SetsBytes}
use Rattle.semantics.specs.ShardPlan.{capacity}
use Rattle.semantics.specs.SequentialShard.{SequentialShard, opening_cells, cell_bytes, cell_of_key, number_in_cell, with_number_in_cell, with_value}
use Rattle.semantics.specs.SequentialShard.{after_eviction, without_found, update_answer, delete_answer, present_key, shard_after_call, shard_after}
use Rattle.semantics.specs.History.{may_change_keys, is_own_key, is_value, are_flags, are_bytes, meets, IsLegalHistory}
use Rattle.semantics.proofs.shared.ConditionLemmas.{first_true, second_true, tested_bytes}
use Rattle.semantics.proofs.shared.LittleEndianLemmas.{below-more, number_of_bytes-cons}
use Rattle.semantics.proofs.shared.LawLemmas.{updated_where-keeps, after_eviction-keeps}

-- ---- lists

pub each_append : {A : Type 0} (P : A → Type 0) (xs ys : List A) → AllByRecursion P xs → AllByRecursion P ys → AllByRecursion P (xs ++ ys)
each_append P [] ys first second = second
each_append P (x ∷ xs) ys first second = (first.0, each_append P xs ys first.1 second)

each_take : {A : Type 0} (P : A → Type 0) (n : ℕ) (xs : List A) → AllByRecursion P xs → AllByRecursion P (take n xs)
each_take P zero xs each = tt
each_take P (suc n) [] each = tt
each_take P (suc n) (x ∷ xs) each = (each.0, each_take P n xs each.1)

each_drop : {A : Type 0} (P : A → Type 0) (n : ℕ) (xs : List A) → AllByRecursion P xs → AllByRecursion P (drop n xs)
each_drop P zero xs each = each
each_drop P (suc n) [] each = tt
each_drop P (suc n) (x ∷ xs) each = each_drop P n xs each.1

each_set : {A : Type 0} (P : A → Type 0) (xs : List A) (n : ℕ) (y : A) → AllByRecursion P xs → P y → AllByRecursion P (slice_set xs n y)
each_set P [] n y each new = tt
each_set P (x ∷ xs) zero y each new = (new, each.1)
each_set P (x ∷ xs) (suc n) y each new = (each.0, each_set P xs n y each.1 new)

each_at : {A : Type 0} (P : A → Type 0) (xs : List A) (n : ℕ) (d : A) → AllByRecursion P xs → P d → P (slice_index_or xs n d)
each_at P [] n d each past = past
each_at P (x ∷ xs) zero d each past = each.0
each_at P (x ∷ xs) (suc n) d each past = each_at P xs n d each.1 past

each_same : {A : Type 0} (P : A → Type 0) (n : ℕ) (x : A) → P x → AllByRecursion P (replicate n x)
each_same P zero x one = tt
each_same P (suc n) x one = (one, each_same P n x one)

-- ---- bytes

pub bytes_tested : (bytes : List ℕ) → IsTrue (are_bytes bytes) → AreBytes bytes
bytes_tested bytes test = recursion_from_All (λ byte. byte < 256) bytes (tested_bytes bytes test)

bytes_of_number-bytes : (count number : ℕ) → AreBytes (bytes_of_number count number)
bytes_of_number-bytes zero number = tt
bytes_of_number-bytes (suc count) number = (mod-lt number (lit< tt), bytes_of_number-bytes count (number / 256))

overwritten-bytes : (at : ℕ) (items old : List ℕ) → AreBytes items → AreBytes old →
    AreBytes (take at old ++ items ++ drop (at + length items) old)
overwritten-bytes at items old new kept =
    each_append (λ byte. byte < 256) (take at old ++ items) (drop (at + length items) old)
    (each_append (λ byte. byte < 256) (take at old) items (each_take (λ byte. byte < 256) at old kept) new)
    (each_drop (λ byte. byte < 256) (at + length items) old kept)

number_of_bytes-below : (bytes : List ℕ) → AreBytes bytes → number_of_bytes bytes < 256 ^ length bytes
number_of_bytes-below [] each = omega arith
number_of_bytes-below (byte ∷ higher) each =
    rw (number_of_bytes-cons byte higher) (below-more (number_of_bytes higher) byte (length higher) (number_of_bytes-below higher each.1)
    each.0)

-- a number of some size that is read in a cell of bytes
pub number_in_cell-below : (shard : SequentialShard) (cell offset size : ℕ) → AllByRecursion AreBytes shard.cells →
    number_in_cell shard cell offset size < 256 ^ size
number_in_cell-below shard cell offset size each =
    let bytes : List ℕ = take size (drop offset (cell_bytes shard cell)) in
    let held : AreBytes bytes = each_take (λ byte. byte < 256) size (drop offset (cell_bytes shard cell))
    (each_drop (λ byte. byte < 256) offset (cell_bytes shard cell) (each_at AreBytes shard.cells cell [] each tt)) in
    let below : number_of_bytes bytes < 256 ^ length bytes = number_of_bytes-below bytes held in
    let short : length bytes ≤ size = simp length-take (omega arith) in
    let wider : 256 ^ length bytes ≤ 256 ^ size = pow-le-pow_right {n = 256} (lit< tt) short in
    omega (arith, below, wider)

-- ---- calls

number_written : (shard : SequentialShard) (cell offset size value : ℕ) → AllByRecursion AreBytes shard.cells →
    AllByRecursion AreBytes (with_number_in_cell shard cell offset size value).cells
number_written shard cell offset size value each =
    each_set AreBytes shard.cells cell (take offset (cell_bytes shard cell) ++ bytes_of_number size value ++ drop
    (offset + length (bytes_of_number size value)) (cell_bytes shard cell)) each
    (overwritten-bytes offset (bytes_of_number size value) (cell_bytes shard cell) (bytes_of_number-bytes size value)
    (each_at AreBytes shard.cells cell [] each tt))

cells_without : (shard : SequentialShard) (place : ℕ) (gone : Option PresentKey) → AllByRecursion AreBytes shard.cells →
    AllByRecursion AreBytes (without_found shard place gone).cells
cells_without shard place None each = each
cells_without shard place (Some gone) each = each

value_set : (plan : ShardPlan) (history : List Entry) (shard : SequentialShard) (key value : List ℕ) (cell : Option ℕ) → AreBytes value →
    AllByRecursion AreBytes shard.cells → AllByRecursion AreBytes (with_value plan history shard key value cell).cells
value_set plan history shard key value (Some cell) bytes each = each_set AreBytes shard.cells cell value each bytes
value_set plan history shard key value None bytes each =
    each_append AreBytes (after_eviction plan history shard).cells (value ∷ [])
    (after_eviction-keeps (λ after. AllByRecursion AreBytes after.cells) plan history shard
    (λ gone is. cells_without shard (length history) gone each) each)
    (bytes, tt)

pub cells_after_call : (plan : ShardPlan) (history : List Entry) (shard : SequentialShard) (call : Call) → SetsBytes call →
    AllByRecursion AreBytes shard.cells → AllByRecursion AreBytes (shard_after_call plan history shard call).cells
cells_after_call plan history shard (Enter number) sets each = each
cells_after_call plan history shard (Leave number) sets each = each
cells_after_call plan history shard (Lookup number key) sets each = each
cells_after_call plan history shard (Load cell offset size) sets each = each
cells_after_call plan history shard (Store cell offset size value) sets each = number_written shard cell.id offset size value each
cells_after_call plan history shard (Atomic cell offset size op value expected) sets each =
    number_written shard cell.id offset size _ each
cells_after_call plan history shard (Update number key value flags) sets each =
    updated_where-keeps (λ after. AllByRecursion AreBytes after.cells) (update_answer plan shard key flags)
    (with_value plan history shard key value (cell_of_key plan shard key)) shard
    (value_set plan history shard key value (cell_of_key plan shard key) sets each) each
cells_after_call plan history shard (Delete number key) sets each =
    updated_where-keeps (λ after. AllByRecursion AreBytes after.cells) (delete_answer plan shard key)
    (without_found shard (length history) (present_key shard key)) shard
    (cells_without shard (length history) (present_key shard key) each) each
cells_after_call plan history shard (Reclaim number) sets each = each

-- ---- legal histories

pub opening_bytes : (kind : MapKind) (plan : ShardPlan) → AllByRecursion AreBytes (opening_cells kind plan)
opening_bytes Array plan =
    each_same AreBytes (capacity plan) (replicate plan.definition.value_size 0)
    (each_same (λ byte. byte < 256) plan.definition.value_size 0 (omega arith))
opening_bytes Hash plan = tt
opening_bytes LruHash plan = tt

-- a call that may be made sets bytes
sets_bytes : (plan : ShardPlan) (history : List Entry) (who : Caller) (call : Call) → IsTrue (meets plan history who call) → SetsBytes call
sets_bytes plan history who (Enter shard) met = tt
sets_bytes plan history who (Leave shard) met = tt
sets_bytes plan history who (Lookup shard key) met = tt
sets_bytes plan history who (Load cell offset size) met = tt
sets_bytes plan history who (Store cell offset size value) met = tt
sets_bytes plan history who (Atomic cell offset size op value expected) met = tt
sets_bytes plan history who (Update shard key value flags) met =
    let part : IsTrue ((may_change_keys plan history who && is_own_key plan key) && (is_value plan value && are_flags flags)) =
    second_true (shard == plan.number) _ met in
    let set : IsTrue (is_value plan value && are_flags flags) = second_true (may_change_keys plan history who && is_own_key plan key) _ part in
    let value_is : IsTrue (is_value plan value) = first_true (is_value plan value) (are_flags flags) set in
    let bytes : are_bytes value ≡ true = second_true (length value == plan.definition.value_size) (are_bytes value) value_is in
    bytes_tested value bytes
sets_bytes plan history who (Delete shard key) met = tt
sets_bytes plan history who (Reclaim shard) met = tt

pub legal_bytes : (plan : ShardPlan) (history : List Entry) → IsLegalHistory plan history →
    AllByRecursion AreBytes (shard_after plan history).cells
legal_bytes plan [] legal = opening_bytes plan.definition.kind plan
legal_bytes plan (entry ∷ older) legal =
    cells_after_call plan older (shard_after plan older) entry.call
    (sets_bytes plan older entry.who entry.call legal.0.step.met) (legal_bytes plan older legal.1)

-- a number of some size that is read in a cell
pub number_below : (plan : ShardPlan) (history : List Entry) (cell offset size : ℕ) → IsLegalHistory plan history →
    number_in_cell (shard_after plan history) cell offset size < 256 ^ size
number_below plan history cell offset size legal = number_in_cell-below (shard_after plan history) cell offset size (legal_bytes plan history legal)
