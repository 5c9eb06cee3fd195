-- What a caller's condition says of the sizes in its call.
use Rattle.std.proofs.Common.{◌≡◌, ℕ, ◌+◌, ◌==◌, ◌≤◌, Bool, ◌&&◌, List, IsTrue, arith}
use Rattle.std.proofs.lemmas.Bool.Decides.{nat_tests}
use Rattle.semantics.specs.declared.call.Entry.{Entry}
use Rattle.semantics.specs.declared.call.Caller.{Caller}
use Rattle.semantics.specs.declared.call.Call.{Call}
use Rattle.semantics.specs.declared.call.Call.TheVariants.{Enter, Leave, Lookup, Load, Store, Atomic, Update, Delete, Reclaim}
use Rattle.semantics.specs.declared.plan.ShardPlan.{ShardPlan}
use Rattle.semantics.specs.PlanLimits.{IsWithinLimits}
use Rattle.semantics.specs.History.{is_in_cell, is_aligned, meets_part, meets}
use Rattle.semantics.proofs.shared.ConditionLemmas.{first_true, second_true}
use Rattle.semantics.proofs.shared.CallNumbers.{narrow_load, fits_below}
use Rattle.test_support.specs.OneThread.{IsSized}

key_size_met : (a b : ℕ) (c : Bool) → IsTrue (a == b && c) → a ≡ b
key_size_met a b c held = let h : IsTrue (a == b) = first_true (a == b) c held in grind (arith, nat_tests)

in_cell_met : (plan : ShardPlan) (offset size : ℕ) → IsWithinLimits plan → IsTrue (is_in_cell plan offset size) → offset + size ≤ 256
in_cell_met plan offset size limits held =
    let most : plan.definition.value_size ≤ 256 = limits.value_size in
    grind (arith, nat_tests)

sized_part : (plan : ShardPlan) (history : List Entry) (who : Caller) (call : Call) → IsWithinLimits plan → IsTrue (meets_part plan history who call) → IsSized plan call
sized_part plan history who (Enter shard) limits met = tt
sized_part plan history who (Leave shard) limits met = tt
sized_part plan history who (Lookup shard key) limits met = key_size_met _ _ _ (second_true _ _ met)
sized_part plan history who (Load cell offset size) limits met = narrow_load size (second_true _ _ (first_true _ _ met))
sized_part plan history who (Store cell offset size value) limits met =
    (narrow_load size (second_true _ _ (first_true _ _ (first_true _ _ met))), in_cell_met plan offset size limits (second_true _ _ (first_true _ _ met)))
sized_part plan history who (Atomic cell offset size op value expected) limits met = (
  second_true _ _ (first_true _ _ (first_true _ _ (first_true _ _ (first_true _ _ (first_true _ _ met))))),
  in_cell_met plan offset size limits (first_true (is_in_cell plan offset size) (is_aligned offset size) (second_true _ _ (first_true _ _ (first_true _ _ (first_true _ _ (first_true _ _ met)))))),
  fits_below value size (second_true _ _ (first_true _ _ (first_true _ _ met))),
  fits_below expected size (second_true _ _ (first_true _ _ met)),
)
sized_part plan history who (Update shard key value flags) limits met = key_size_met _ _ _ (second_true _ _ (first_true _ _ met))
sized_part plan history who (Delete shard key) limits met = key_size_met _ _ _ (second_true _ _ met)
sized_part plan history who (Reclaim shard) limits met = tt

-- a call that its caller may make has the sizes
pub IsSized-meets : (plan : ShardPlan) (history : List Entry) (who : Caller) (call : Call) → IsWithinLimits plan → IsTrue (meets plan history who call) → IsSized plan call
IsSized-meets plan history who call limits met = sized_part plan history who call limits (second_true _ _ met)
