-- How a shard's state grows by its calls.
use Rattle.std.proofs.Common.{◌≡◌, ℕ, ◌+◌, ◌<◌, ◌≤◌, Bool, true, false, ℤ, pos, negsuc, List, [], ◌∷◌, ◌++◌, length, Option, Some, None, arith, refl, ap}
use Rattle.std.specs.Prelude.{◌==◌, if◌then◌else◌}
use Rattle.std.proofs.lemmas.List.{length-set, length-append}
use Rattle.semantics.specs.declared.call.Entry.{Entry}
use Rattle.semantics.specs.declared.call.Call.{Call}
use Rattle.semantics.specs.declared.call.Call.TheVariants.{Enter, Leave, Lookup, Load, Store, Atomic, Update, Delete, Reclaim}
use Rattle.semantics.specs.declared.plan.PresentKey.{PresentKey}
use Rattle.semantics.specs.ShardPlan.{ShardPlan}
use Rattle.semantics.specs.LeastRecentlyUsed.{least_recently_used}
use Rattle.semantics.specs.SequentialShard.{SequentialShard, without_found, after_eviction, with_new_key, with_value, updated_where, is_full_of_keys, shard_after_call, shard_after, cell_of_key, update_answer, delete_answer, present_key}

-- a fact of both states is one of the state that an answer leaves
pub updated_where-keeps : (P : SequentialShard → Type 0) (answer : ℤ) (updated shard : SequentialShard) → P updated → P shard → P (updated_where answer updated shard)
updated_where-keeps P (pos answer) updated shard changed same = by_test (answer == 0)
  where
    by_test : (test : Bool) → P (if test then updated else shard)
    by_test true = changed
    by_test false = same
updated_where-keeps P (negsuc answer) updated shard changed same = same

-- a fact of the state with and without an eviction is one after it
pub after_eviction-keeps : (P : SequentialShard → Type 0) (plan : ShardPlan) (history : List Entry) (shard : SequentialShard) → ((gone : Option PresentKey) → gone ≡ least_recently_used history shard.present → P (without_found shard (length history) gone)) → P shard → P (after_eviction plan history shard)
after_eviction-keeps P plan history shard evicted same = by_test (is_full_of_keys plan shard)
  where
    by_test : (test : Bool) → P (if test then without_found shard (length history) (least_recently_used history shard.present) else shard)
    by_test true = evicted (least_recently_used history shard.present) refl
    by_test false = same

pub same_cells_without : (shard : SequentialShard) (place : ℕ) (gone : Option PresentKey) → (without_found shard place gone).cells ≡ shard.cells
same_cells_without shard place None = refl
same_cells_without shard place (Some gone) = refl

pub same_cells_evicted : (plan : ShardPlan) (history : List Entry) (shard : SequentialShard) → (after_eviction plan history shard).cells ≡ shard.cells
same_cells_evicted plan history shard =
    after_eviction-keeps (λ after. after.cells ≡ shard.cells) plan history shard (λ gone is. same_cells_without shard (length history) gone) refl

value_grows : (plan : ShardPlan) (history : List Entry) (shard : SequentialShard) (key value : List ℕ) (cell : Option ℕ) → length shard.cells ≤ length (with_value plan history shard key value cell).cells
value_grows plan history shard key value (Some cell) = omega (arith, length-set shard.cells cell value)
value_grows plan history shard key value None =
    let same : length (after_eviction plan history shard).cells ≡ length shard.cells = ap length (same_cells_evicted plan history shard) in
    let more : length ((after_eviction plan history shard).cells ++ value ∷ []) ≡ length (after_eviction plan history shard).cells + length (value ∷ []) = length-append (after_eviction plan history shard).cells (value ∷ []) in
    omega (arith, same, more)

pub call_grows : (plan : ShardPlan) (history : List Entry) (shard : SequentialShard) (call : Call) → length shard.cells ≤ length (shard_after_call plan history shard call).cells
call_grows plan history shard (Enter number) = omega arith
call_grows plan history shard (Leave number) = omega arith
call_grows plan history shard (Lookup number key) = omega arith
call_grows plan history shard (Load cell offset size) = omega arith
call_grows plan history shard (Store cell offset size value) = simp length-set (omega arith)
call_grows plan history shard (Atomic cell offset size op value expected) = simp length-set (omega arith)
call_grows plan history shard (Update number key value flags) =
    updated_where-keeps (λ after. length shard.cells ≤ length after.cells) (update_answer plan shard key flags) (with_value plan history shard key value (cell_of_key plan shard key)) shard
    (value_grows plan history shard key value (cell_of_key plan shard key)) (omega arith)
call_grows plan history shard (Delete number key) =
    updated_where-keeps (λ after. length shard.cells ≤ length after.cells) (delete_answer plan shard key) (without_found shard (length history) (present_key shard key)) shard
    (let same : length (without_found shard (length history) (present_key shard key)).cells ≡ length shard.cells = ap length (same_cells_without shard (length history) (present_key shard key)) in omega (arith, same)) (omega arith)
call_grows plan history shard (Reclaim number) = omega arith

pub history_grows : (plan : ShardPlan) (newer older : List Entry) → length (shard_after plan older).cells ≤ length (shard_after plan (newer ++ older)).cells
history_grows plan [] older = omega arith
history_grows plan (entry ∷ newer) older =
    let before : length (shard_after plan older).cells ≤ length (shard_after plan (newer ++ older)).cells = history_grows plan newer older in
    let step : length (shard_after plan (newer ++ older)).cells ≤ length (shard_after_call plan (newer ++ older) (shard_after plan (newer ++ older)) entry.call).cells = call_grows plan (newer ++ older) (shard_after plan (newer ++ older)) entry.call in
    omega (arith, before, step)

pub next_cell : (shard : SequentialShard) (key value : List ℕ) → ((with_new_key shard key value).present ≡ (record { key = key; cell = length shard.cells }) ∷ shard.present) × (length shard.cells < length (with_new_key shard key value).cells)
next_cell shard key value =
    (refl, let more : length (shard.cells ++ value ∷ []) ≡ length shard.cells + length (value ∷ []) = length-append shard.cells (value ∷ []) in omega (arith, more))
