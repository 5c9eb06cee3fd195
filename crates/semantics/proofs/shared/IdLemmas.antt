-- How many cells each call creates.
use Rattle.std.proofs.Common.{◌≡◌, ℕ, ◌+◌, ◌≤◌, Bool, true, false, ◌&&◌, not, ℤ, pos, negsuc, List, [], ◌∷◌, ◌++◌, length, Option, Some, None, arith, refl, ap}
use Rattle.std.specs.Prelude.{◌==◌, is_some, if◌then◌else◌}
use Rattle.std.proofs.lemmas.List.{length-set, length-append}
use Rattle.semantics.specs.declared.call.Call.{Call}
use Rattle.semantics.specs.declared.call.Call.TheVariants.{Enter, Leave, Lookup, Load, Store, Atomic, Update, Delete, Reclaim}
use Rattle.semantics.specs.declared.call.Entry.{Entry}
use Rattle.semantics.specs.ShardPlan.{ShardPlan}
use Rattle.semantics.specs.LeastRecentlyUsed.{is_zero}
use Rattle.semantics.specs.SequentialShard.{SequentialShard, opening_cells, cell_of_key, without_found, after_eviction, with_value, updated_where, update_answer, delete_answer, present_key, shard_after_call, shard_after}
use Rattle.semantics.specs.IdLaws.{creates, creations}
use Rattle.semantics.proofs.shared.LawLemmas.{updated_where-keeps, same_cells_without, same_cells_evicted}

value_adds : (plan : ShardPlan) (history : List Entry) (shard : SequentialShard) (key value : List ℕ) (cell : Option ℕ) →
    length (with_value plan history shard key value cell).cells ≡ (if not (is_some cell) then 1 else 0) + length shard.cells
value_adds plan history shard key value (Some cell) = omega (arith, length-set shard.cells cell value)
value_adds plan history shard key value None =
    let same : length (after_eviction plan history shard).cells ≡ length shard.cells = ap length (same_cells_evicted plan history shard) in
    let more : length ((after_eviction plan history shard).cells ++ value ∷ []) ≡ length (after_eviction plan history shard).cells + length (value ∷ []) = length-append (after_eviction plan history shard).cells (value ∷ []) in
    omega (arith, same, more)

update_adds : (answer : ℤ) (absent : Bool) (updated shard : SequentialShard) → length updated.cells ≡ (if absent then 1 else 0) + length shard.cells →
    length (updated_where answer updated shard).cells ≡ (if is_zero answer && absent then 1 else 0) + length shard.cells
update_adds (pos answer) absent updated shard more = by_test (answer == 0)
  where
    by_test : (done : Bool) → length (if done then updated else shard).cells ≡ (if done && absent then 1 else 0) + length shard.cells
    by_test true = more
    by_test false = omega arith
update_adds (negsuc below) absent updated shard more = omega arith

call_adds : (plan : ShardPlan) (history : List Entry) (shard : SequentialShard) (call : Call) →
    length (shard_after_call plan history shard call).cells ≡ (if creates plan shard call then 1 else 0) + length shard.cells
call_adds plan history shard (Enter number) = omega arith
call_adds plan history shard (Leave number) = omega arith
call_adds plan history shard (Lookup number key) = omega arith
call_adds plan history shard (Load cell offset size) = omega arith
call_adds plan history shard (Store cell offset size value) = simp length-set (omega arith)
call_adds plan history shard (Atomic cell offset size op value expected) = simp length-set (omega arith)
call_adds plan history shard (Update number key value flags) =
    update_adds (update_answer plan shard key flags) (not (is_some (cell_of_key plan shard key))) (with_value plan history shard key value (cell_of_key plan shard key)) shard
    (value_adds plan history shard key value (cell_of_key plan shard key))
call_adds plan history shard (Delete number key) =
    let same : length (shard_after_call plan history shard (Delete number key)).cells ≡ length shard.cells =
    updated_where-keeps (λ after. length after.cells ≡ length shard.cells) (delete_answer plan shard key) (without_found shard (length history) (present_key shard key)) shard
    (ap length (same_cells_without shard (length history) (present_key shard key))) refl in
    omega (arith, same)
call_adds plan history shard (Reclaim number) = omega arith

pub ids_count : (plan : ShardPlan) (history : List Entry) → length (shard_after plan history).cells ≡ length (opening_cells plan.definition.kind plan) + creations plan history
ids_count plan [] = omega arith
ids_count plan (entry ∷ older) =
    let before : length (shard_after plan older).cells ≡ length (opening_cells plan.definition.kind plan) + creations plan older = ids_count plan older in
    let now : length (shard_after plan (entry ∷ older)).cells ≡ (if creates plan (shard_after plan older) entry.call then 1 else 0) + length (shard_after plan older).cells = call_adds plan older (shard_after plan older) entry.call in
    omega (arith, before, now)

one_at_most : (test : Bool) → (if test then 1 else 0) ≤ 1
one_at_most true = omega arith
one_at_most false = omega arith

few_creations : (plan : ShardPlan) (history : List Entry) → creations plan history ≤ length history
few_creations plan [] = omega arith
few_creations plan (entry ∷ older) =
    let before : creations plan older ≤ length older = few_creations plan older in
    let one : (if creates plan (shard_after plan older) entry.call then 1 else 0) ≤ 1 = one_at_most (creates plan (shard_after plan older) entry.call) in
    omega (arith, before, one)

pub ids_are_few : (plan : ShardPlan) (history : List Entry) → length (shard_after plan history).cells ≤ length (opening_cells plan.definition.kind plan) + length history
ids_are_few plan history = omega (arith, ids_count plan history, few_creations plan history)
