-- The present keys of a legal history are keys of the shard.
use Rattle.std.proofs.Common.{◌≡◌, ℕ, Bool, true, false, cond, not, ◌&&◌, List, [], ◌∷◌, length, Option, Some, None, IsTrue, refl, subst}
use Rattle.std.specs.Prelude.{◌==◌, find, option_map, bytes_eq}
use Rattle.std.specs.List.{AllByRecursion}
use Rattle.semantics.specs.declared.call.Caller.{Caller}
use Rattle.semantics.specs.declared.call.Call.{Call}
use Rattle.semantics.specs.declared.call.Call.TheVariants.{Enter, Leave, Lookup, Load, Store, Atomic, Update, Delete, Reclaim}
use Rattle.semantics.specs.declared.call.Entry.{Entry}
use Rattle.semantics.specs.declared.plan.PresentKey.{PresentKey}
use Rattle.semantics.specs.declared.plan.ShardPlan.{ShardPlan}
use Rattle.semantics.specs.History.{may_change_keys, is_own_key, is_value, are_flags, meets, IsLegalHistory}
use Rattle.semantics.specs.SequentialShard.{SequentialShard, cell_of_present, cell_of_key, without_found, with_value, update_answer, delete_answer, present_key, shard_after_call, shard_after}
use Rattle.semantics.proofs.shared.ConditionLemmas.{first_true, second_true}
use Rattle.semantics.proofs.shared.LawLemmas.{updated_where-keeps, after_eviction-keeps}
use Rattle.semantics.proofs.shared.UseLemmas.{first_parts, same_bytes}

abbrev pub OwnKeys : ShardPlan → List PresentKey → Type 0
OwnKeys plan present = AllByRecursion (λ (one : PresentKey). is_own_key plan one.key ≡ true) present

own_without : (plan : ShardPlan) (shard : SequentialShard) (place : ℕ) (gone : Option PresentKey) → OwnKeys plan shard.present → OwnKeys plan (without_found shard place gone).present
own_without plan shard place None own = own
own_without plan shard place (Some gone) own = first_parts (λ (one : PresentKey). is_own_key plan one.key ≡ true) (λ (one : PresentKey). not (one.cell == gone.cell)) shard.present own

own_with_value : (plan : ShardPlan) (history : List Entry) (shard : SequentialShard) (key value : List ℕ) (cell : Option ℕ) → is_own_key plan key ≡ true → OwnKeys plan shard.present → OwnKeys plan (with_value plan history shard key value cell).present
own_with_value plan history shard key value (Some cell) is own = own
own_with_value plan history shard key value None is own =
    (is, after_eviction-keeps (λ after. OwnKeys plan after.present) plan history shard (λ gone by. own_without plan shard (length history) gone own) own)

own_after_call : (plan : ShardPlan) (history : List Entry) (shard : SequentialShard) (who : Caller) (call : Call) → IsTrue (meets plan history who call) → OwnKeys plan shard.present → OwnKeys plan (shard_after_call plan history shard call).present
own_after_call plan history shard who (Enter number) met own = own
own_after_call plan history shard who (Leave number) met own = own
own_after_call plan history shard who (Lookup number key) met own = own
own_after_call plan history shard who (Load cell offset size) met own = own
own_after_call plan history shard who (Store cell offset size value) met own = own
own_after_call plan history shard who (Atomic cell offset size op value expected) met own = own
own_after_call plan history shard who (Update number key value flags) met own =
    let part : IsTrue ((may_change_keys plan history who && is_own_key plan key) && (is_value plan value && are_flags flags)) = second_true (number == plan.number) _ met in
    let is : IsTrue (is_own_key plan key) = second_true (may_change_keys plan history who) (is_own_key plan key) (first_true (may_change_keys plan history who && is_own_key plan key) _ part) in
    updated_where-keeps (λ after. OwnKeys plan after.present) (update_answer plan shard key flags) (with_value plan history shard key value (cell_of_key plan shard key)) shard
    (own_with_value plan history shard key value (cell_of_key plan shard key) is own) own
own_after_call plan history shard who (Delete number key) met own =
    updated_where-keeps (λ after. OwnKeys plan after.present) (delete_answer plan shard key) (without_found shard (length history) (present_key shard key)) shard
    (own_without plan shard (length history) (present_key shard key) own) own
own_after_call plan history shard who (Reclaim number) met own = own

pub own_after : (plan : ShardPlan) (history : List Entry) → IsLegalHistory plan history → OwnKeys plan (shard_after plan history).present
own_after plan [] legal = tt
own_after plan (entry ∷ older) legal = own_after_call plan older (shard_after plan older) entry.who entry.call legal.0.step.met (own_after plan older legal.1)

-- so a key that is found is one of the shard
pub found_own : (plan : ShardPlan) (present : List PresentKey) (key : List ℕ) (cell : ℕ) → OwnKeys plan present → cell_of_present present key ≡ Some cell → is_own_key plan key ≡ true
found_own plan [] key cell own found = absurd (cc found)
found_own plan (one ∷ rest) key cell own found = by_test (bytes_eq one.key key) refl found (found_own plan rest key cell own.1)
  where
    by_test : (test : Bool) → bytes_eq one.key key ≡ test → option_map (λ (other : PresentKey). other.cell) (cond test (Some one) (find (λ (other : PresentKey). bytes_eq other.key key) rest)) ≡ Some cell
        → (cell_of_present rest key ≡ Some cell → is_own_key plan key ≡ true) → is_own_key plan key ≡ true
    by_test true same is later = subst (λ (k : List ℕ). is_own_key plan k ≡ true) (same_bytes one.key key same) own.0
    by_test false other is later = later is
