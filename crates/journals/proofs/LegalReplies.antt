-- What a legal history's shard replies is a reply that a file may have: of its call's form, with numbers that fit.
use Rattle.std.proofs.Common.{◌≡◌, ℕ, ◌+◌, ◌/◌, ◌<◌, ◌≤◌, Bool, true, false, cond, not, nat_lt, List, [], ◌∷◌, length, replicate, Option, Some}
use Rattle.std.proofs.Common.{None, IsTrue, arith, refl, sym, div-le_self}
use Rattle.std.specs.Prelude.{IsFalse, filter, find, option_map, bytes_eq, if◌then◌else◌}
use Rattle.std.specs.List.{AllByRecursion}
use Rattle.std.proofs.lemmas.Bool.Decides.{nat_tests}
use Rattle.std.proofs.lemmas.List.{length-replicate}
use Rattle.ebpf_decode.specs.declared.map.MapKind.{MapKind}
use Rattle.ebpf_decode.specs.declared.map.MapKind.TheVariants.{Array, Hash, LruHash}
use Rattle.semantics.specs.declared.call.Caller.{Caller}
use Rattle.semantics.specs.declared.call.Call.{Call}
use Rattle.semantics.specs.declared.call.Call.TheVariants.{Enter, Leave, Lookup, Load, Store, Atomic, Update, Delete, Reclaim}
use Rattle.semantics.specs.declared.call.Entry.{Entry}
use Rattle.semantics.specs.declared.plan.PresentKey.{PresentKey}
use Rattle.semantics.specs.declared.plan.RetiredCell.{RetiredCell}
use Rattle.semantics.specs.declared.plan.ShardPlan.{ShardPlan}
use Rattle.semantics.specs.LittleEndian.{number_of_bytes}
use Rattle.semantics.specs.ShardPlan.{capacity}
use Rattle.semantics.specs.PlanLimits.{IsPlan}
use Rattle.semantics.specs.Reclamation.{inside_count, is_reclaimable}
use Rattle.semantics.specs.SequentialShard.{SequentialShard, opening_cells, cell_of_index, cell_of_present, cell_of_kind, cell_of_key, number_in_cell}
use Rattle.semantics.specs.SequentialShard.{update_answer}
use Rattle.semantics.specs.SequentialShard.{delete_answer, without_found, with_value, present_key, reclaimable_cells, lookup_reply}
use Rattle.semantics.specs.SequentialShard.{reply_of, shard_after_call, shard_after}
use Rattle.semantics.specs.History.{shard_of_call, meets_part, journal_is_full, IsLegalHistory}
use Rattle.semantics.proofs.shared.ConditionLemmas.{first_true, second_true}
use Rattle.semantics.proofs.shared.AnswerLemmas.{update_fits, delete_fits}
use Rattle.semantics.proofs.shared.CellBytes.{number_below}
use Rattle.semantics.proofs.shared.HoldingLemmas.{each_find, sound_after}
use Rattle.semantics.proofs.shared.IdLemmas.{ids_are_few}
use Rattle.semantics.proofs.shared.LawLemmas.{updated_where-keeps, after_eviction-keeps}
use Rattle.journals.specs.EntryForm.{IsNumber, IsFinding, ReplyFits}
use Rattle.journals.proofs.LegalCalls.{is_number}
use Rattle.semantics.proofs.shared.CallNumbers.{narrow_load, narrow_atomic, not_over}

-- ---- a journal that is not full is short

-- before an entry for which there was room
abbrev IsShort : List Entry → Type 0
IsShort history = length history ≤ 4000000000

short_where : (plan : ShardPlan) (history : List Entry) → IsPlan plan →
    nat_lt plan.reserve (length history + inside_count history + 0 + 1) ≡ false → IsShort history
short_where plan history is room =
    let most : length history + inside_count history + 0 + 1 ≤ plan.reserve = not_over plan.reserve (length history + inside_count history + 0 + 1) room in
    omega (arith, most, is.greatest_reserve)

-- ---- cells are few

opened_few : (kind : MapKind) (plan : ShardPlan) → IsPlan plan → length (opening_cells kind plan) ≤ 131072
opened_few Array plan is =
    let counted : length (opening_cells Array plan) ≡ capacity plan = length-replicate (capacity plan) (replicate plan.definition.value_size 0) in
    let less : plan.definition.max_entries / plan.parts ≤ plan.definition.max_entries = div-le_self plan.definition.max_entries plan.parts in
    omega (arith, counted, less, is.most_entries)
opened_few Hash plan is = omega arith
opened_few LruHash plan is = omega arith

cells_few : (plan : ShardPlan) (history : List Entry) → IsPlan plan → IsShort history → IsNumber (length (shard_after plan history).cells)
cells_few plan history is short =
    let some : length (shard_after plan history).cells ≤ length (opening_cells plan.definition.kind plan) + length history = ids_are_few plan history in
    let opened : length (opening_cells plan.definition.kind plan) ≤ 131072 = opened_few plan.definition.kind plan is in
    omega (arith, some, opened, short)

-- ---- lookups

abbrev FitsFound : Option ℕ → Type 0
FitsFound found = (cell : ℕ) → found ≡ Some cell → IsNumber cell

index_fits : (plan : ShardPlan) (index : ℕ) → IsPlan plan → FitsFound (cell_of_index plan index)
index_fits plan index is = by_test (nat_lt index plan.definition.max_entries) refl
  where
    by_test : (known : Bool) → nat_lt index plan.definition.max_entries ≡ known → FitsFound (if known then Some (index / plan.parts) else None)
    by_test true test cell found =
        let within : index < plan.definition.max_entries = grind (arith, nat_tests) in
        let less : index / plan.parts ≤ index = div-le_self index plan.parts in
        let same : index / plan.parts ≡ cell = cc in
        omega (arith, within, less, same, is.most_entries)
    by_test false test cell found = absurd cc

present_fits : (present : List PresentKey) (key : List ℕ) (count : ℕ) → AllByRecursion (λ (one : PresentKey). one.cell < count) present →
    IsNumber count → FitsFound (cell_of_present present key)
present_fits present key count each few = by_found (find (λ (one : PresentKey). bytes_eq one.key key) present) refl
  where
    by_found : (found : Option PresentKey) → find (λ (one : PresentKey). bytes_eq one.key key) present ≡ found →
        FitsFound (option_map (λ (one : PresentKey). one.cell) found)
    by_found None is cell found = absurd cc
    by_found (Some one) is cell found =
        let same : one.cell ≡ cell = cc in
        let below : one.cell < count =
        each_find (λ (one : PresentKey). one.cell < count) (λ (one : PresentKey). bytes_eq one.key key) present one each is in
        omega (arith, same, below, few)

keyed_fits : (plan : ShardPlan) (history : List Entry) (key : List ℕ) → IsPlan plan → IsShort history →
    FitsFound (cell_of_present (shard_after plan history).present key)
keyed_fits plan history key is short =
    let shard : SequentialShard = shard_after plan history in
    present_fits shard.present key (length shard.cells) (sound_after plan history).present (cells_few plan history is short)

kind_fits : (kind : MapKind) (plan : ShardPlan) (history : List Entry) (key : List ℕ) → IsPlan plan → IsShort history →
    FitsFound (cell_of_kind kind plan (shard_after plan history) key)
kind_fits Array plan history key is short = index_fits plan (number_of_bytes key) is
kind_fits Hash plan history key is short = keyed_fits plan history key is short
kind_fits LruHash plan history key is short = keyed_fits plan history key is short

finding_fits : (plan : ShardPlan) (shard : ℕ) (found : Option ℕ) → shard ≡ plan.number → FitsFound found → IsFinding shard (lookup_reply plan found)
finding_fits plan shard None same fits = tt
finding_fits plan shard (Some cell) same fits = (sym same, fits cell refl)

-- ---- each call retires one cell at most

fewer : {A : Type 0} (test : A → Bool) (xs : List A) → length (filter test xs) ≤ length xs
fewer test [] = omega arith
fewer test (x ∷ xs) = by_test (test x) (fewer test xs)
  where
    by_test : (t : Bool) → length (filter test xs) ≤ length xs → length (cond t (x ∷ filter test xs) (filter test xs)) ≤ length (x ∷ xs)
    by_test true rest = omega (arith, rest)
    by_test false rest = omega (arith, rest)

abbrev RetiresOne : SequentialShard → SequentialShard → Type 0
RetiresOne before after = length after.retired ≤ length before.retired + 1

one_without : (shard : SequentialShard) (place : ℕ) (gone : Option PresentKey) → RetiresOne shard (without_found shard place gone)
one_without shard place None = omega arith
one_without shard place (Some gone) = omega arith

one_by_value : (plan : ShardPlan) (history : List Entry) (shard : SequentialShard) (key value : List ℕ) (cell : Option ℕ) →
    RetiresOne shard (with_value plan history shard key value cell)
one_by_value plan history shard key value (Some cell) = omega arith
one_by_value plan history shard key value None =
    after_eviction-keeps (λ after. RetiresOne shard after) plan history shard (λ gone is. one_without shard (length history) gone) (omega arith)

one_by_call : (plan : ShardPlan) (history : List Entry) (shard : SequentialShard) (call : Call) → RetiresOne shard (shard_after_call plan history shard call)
one_by_call plan history shard (Enter number) = omega arith
one_by_call plan history shard (Leave number) = omega arith
one_by_call plan history shard (Lookup number key) = omega arith
one_by_call plan history shard (Load cell offset size) = omega arith
one_by_call plan history shard (Store cell offset size value) = omega arith
one_by_call plan history shard (Atomic cell offset size op value expected) = omega arith
one_by_call plan history shard (Update number key value flags) =
    updated_where-keeps (λ after. RetiresOne shard after) (update_answer plan shard key flags)
    (with_value plan history shard key value (cell_of_key plan shard key)) shard
    (one_by_value plan history shard key value (cell_of_key plan shard key)) (omega arith)
one_by_call plan history shard (Delete number key) =
    updated_where-keeps (λ after. RetiresOne shard after) (delete_answer plan shard key) (without_found shard (length history) (present_key shard key)) shard
    (one_without shard (length history) (present_key shard key)) (omega arith)
one_by_call plan history shard (Reclaim number) =
    let waits : RetiredCell → Bool = λ one. not (is_reclaimable history one) in
    let rest : length (filter waits shard.retired) ≤ length shard.retired = fewer waits shard.retired in
    omega (arith, rest)

retired_few : (plan : ShardPlan) (history : List Entry) → length (shard_after plan history).retired ≤ length history
retired_few plan [] = omega arith
retired_few plan (entry ∷ older) =
    let before : length (shard_after plan older).retired ≤ length older = retired_few plan older in
    let one : RetiresOne (shard_after plan older) (shard_after plan (entry ∷ older)) = one_by_call plan older (shard_after plan older) entry.call in
    omega (arith, before, one)

freed_fits : (plan : ShardPlan) (history : List Entry) → IsShort history → IsNumber (length (reclaimable_cells history (shard_after plan history)))
freed_fits plan history short =
    let retired : List RetiredCell = (shard_after plan history).retired in
    let some : length (filter (is_reclaimable history) retired) ≤ length retired = fewer (is_reclaimable history) retired in
    let few : length retired ≤ length history = retired_few plan history in
    omega (arith, some, few, short)

-- ---- replies

pub reply_fits : (plan : ShardPlan) (history : List Entry) (who : Caller) (call : Call) → IsPlan plan → IsLegalHistory plan history →
    shard_of_call call ≡ plan.number → IsTrue (meets_part plan history who call) → IsFalse (journal_is_full plan history call) →
    ReplyFits call (reply_of plan history (shard_after plan history) call)
unfolding ReplyFits
reply_fits plan history who (Enter shard) is legal same met room = tt
reply_fits plan history who (Leave shard) is legal same met room = tt
reply_fits plan history who (Lookup shard key) is legal same met room =
    finding_fits plan shard (cell_of_key plan (shard_after plan history) key) same
    (kind_fits plan.definition.kind plan history key is (short_where plan history is room))
reply_fits plan history who (Load cell offset size) is legal same met room =
    is_number (number_in_cell (shard_after plan history) cell.id offset size) size (narrow_load size (second_true _ _ (first_true _ _ met)))
    (number_below plan history cell.id offset size legal)
reply_fits plan history who (Store cell offset size value) is legal same met room = tt
reply_fits plan history who (Atomic cell offset size op value expected) is legal same met room =
    is_number (number_in_cell (shard_after plan history) cell.id offset size) size
    (narrow_atomic size (second_true _ _ (first_true _ _ (first_true _ _ (first_true _ _ (first_true _ _ (first_true _ _ met)))))))
    (number_below plan history cell.id offset size legal)
reply_fits plan history who (Update shard key value flags) is legal same met room = update_fits plan (shard_after plan history) key flags
reply_fits plan history who (Delete shard key) is legal same met room = delete_fits plan (shard_after plan history) key
reply_fits plan history who (Reclaim shard) is legal same met room = freed_fits plan history (short_where plan history is room)
