-- What a caller's condition says of its call.
use Rattle.std.proofs.Common.{◌≡◌, ◌⊎◌, ℕ, ◌+◌, ◌==◌, ◌<◌, ◌≤◌, ◌^◌, Bool, true, false, ◌||◌, nat_lt, List, length, arith, refl, inl, inr}
use Rattle.std.specs.Prelude.{IsTrue, is_some}
use Rattle.std.proofs.lemmas.Bool.Decides.{nat_tests}
use Rattle.semantics.specs.declared.call.Entry.{Entry}
use Rattle.semantics.specs.declared.call.Caller.{Caller}
use Rattle.semantics.specs.declared.call.Caller.TheVariants.{Worker, Controller, Reclaimer}
use Rattle.semantics.specs.declared.call.Call.{Call}
use Rattle.semantics.specs.declared.call.Call.TheVariants.{Lookup, Load, Store, Atomic, Update, Delete}
use Rattle.semantics.specs.declared.plan.ShardPlan.{ShardPlan}
use Rattle.semantics.specs.PlanLimits.{IsPlan}
use Rattle.semantics.specs.Reclamation.{holds}
use Rattle.semantics.specs.SequentialShard.{is_kept, shard_after}
use Rattle.isa.specs.InstructionCodes.{atomic_op_of}
use Rattle.semantics.specs.History.{shard_of_call, is_holder, is_own_key, is_value, are_bytes, are_flags, is_atomic_size, is_in_cell, is_aligned, may_change_keys, is_inside_worker, meets_part, meets, IsLegalHistory}
use Rattle.semantics.proofs.shared.CallNumbers.{same_number, narrow_load, narrow_atomic, op_below, fits_below, key_sized}
use Rattle.semantics.proofs.shared.ConditionLemmas.{first_true, second_true}
use Rattle.semantics.proofs.shared.KeptLemmas.{held_is_kept_of_plan}

-- a caller that holds the cell asks for these bytes of it
pub record IsRangeOf (plan : ShardPlan) (history : List Entry) (cell offset size : ℕ) : Type 0 where
  pub kept : IsTrue (is_kept plan (shard_after plan history) cell)
  pub narrow : size ≤ 8
  pub within : offset + size ≤ plan.definition.value_size

-- a cell that its caller holds is kept
holder_kept : (plan : ShardPlan) (history : List Entry) (who : Caller) (cell : ℕ) → IsPlan plan → IsLegalHistory plan history → IsTrue (is_holder plan history who cell) → IsTrue (is_kept plan (shard_after plan history) cell)
holder_kept plan history Controller cell is legal held = cc
holder_kept plan history Reclaimer cell is legal held = cc
holder_kept plan history (Worker number) cell is legal held =
    let known : IsTrue (nat_lt number plan.workers) = first_true (nat_lt number plan.workers) (holds number cell history) held in
    let most : plan.workers ≤ 8 = is.at_most_eight in
    let below : number < 8 = grind (arith, nat_tests) in
    held_is_kept_of_plan plan history number cell is below legal (second_true (nat_lt number plan.workers) (holds number cell history) held)

either_size : (size : ℕ) → IsTrue (is_atomic_size size) → (size ≡ 4) ⊎ (size ≡ 8)
either_size size met = by_test (size == 4) refl met
  where
    by_test : (test : Bool) → (size == 4) ≡ test → IsTrue (test || size == 8) → (size ≡ 4) ⊎ (size ≡ 8)
    by_test true is met = inl (grind (arith, nat_tests))
    by_test false is met = inr (grind (arith, nat_tests))

in_cell : (plan : ShardPlan) (offset size : ℕ) → IsTrue (is_in_cell plan offset size) → offset + size ≤ plan.definition.value_size
in_cell plan offset size met = grind (arith, nat_tests)

part_met : (plan : ShardPlan) (history : List Entry) (who : Caller) (call : Call) → IsTrue (meets plan history who call) → IsTrue (meets_part plan history who call)
part_met plan history who call met = second_true (shard_of_call call == plan.number) (meets_part plan history who call) met

pub named_shard : (plan : ShardPlan) (history : List Entry) (who : Caller) (call : Call) → IsTrue (meets plan history who call) → shard_of_call call ≡ plan.number
named_shard plan history who call met = same_number _ _ (first_true (shard_of_call call == plan.number) (meets_part plan history who call) met)

pub load_asked : (plan : ShardPlan) (history : List Entry) (who : Caller) (shard cell offset size : ℕ) → IsPlan plan → IsLegalHistory plan history →
    IsTrue (meets plan history who (Load (record { shard = shard; id = cell }) offset size)) → IsRangeOf plan history cell offset size
load_asked plan history who shard cell offset size is legal met =
    let part = part_met plan history who (Load (record { shard = shard; id = cell }) offset size) met in
    record {
      kept = holder_kept plan history who cell is legal (first_true _ _ (first_true _ _ part));
      narrow = narrow_load size (second_true _ _ (first_true _ _ part));
      within = in_cell plan offset size (second_true _ _ part);
    }

pub store_asked : (plan : ShardPlan) (history : List Entry) (who : Caller) (shard cell offset size value : ℕ) → IsPlan plan → IsLegalHistory plan history →
    IsTrue (meets plan history who (Store (record { shard = shard; id = cell }) offset size value)) → IsRangeOf plan history cell offset size
store_asked plan history who shard cell offset size value is legal met =
    let part = part_met plan history who (Store (record { shard = shard; id = cell }) offset size value) met in
    record {
      kept = holder_kept plan history who cell is legal (first_true _ _ (first_true _ _ (first_true _ _ part)));
      narrow = narrow_load size (second_true _ _ (first_true _ _ (first_true _ _ part)));
      within = in_cell plan offset size (second_true _ _ (first_true _ _ part));
    }

-- what an Atomic asks for
pub record IsAtomicOf (plan : ShardPlan) (history : List Entry) (cell offset size op value expected : ℕ) : Type 0 where
  pub range : IsRangeOf plan history cell offset size
  pub size_is : (size ≡ 4) ⊎ (size ≡ 8)
  pub known : IsTrue (is_some (atomic_op_of op))
  pub short : op < 256
  pub value_fits : value < 256 ^ size
  pub expected_fits : expected < 256 ^ size

pub atomic_asked : (plan : ShardPlan) (history : List Entry) (who : Caller) (shard cell offset size op value expected : ℕ) → IsPlan plan → IsLegalHistory plan history →
    IsTrue (meets plan history who (Atomic (record { shard = shard; id = cell }) offset size op value expected)) → IsAtomicOf plan history cell offset size op value expected
atomic_asked plan history who shard cell offset size op value expected is legal met =
    let part = part_met plan history who (Atomic (record { shard = shard; id = cell }) offset size op value expected) met in
    let to_expected = first_true _ _ part in
    let to_value = first_true _ _ to_expected in
    let to_op = first_true _ _ to_value in
    let to_place = first_true _ _ to_op in
    let to_size = first_true _ _ to_place in
    let known : IsTrue (is_some (atomic_op_of op)) = second_true _ _ to_op in
    record {
      range = record {
        kept = holder_kept plan history who cell is legal (first_true _ _ to_size);
        narrow = narrow_atomic size (second_true _ _ to_size);
        within = in_cell plan offset size (first_true (is_in_cell plan offset size) (is_aligned offset size) (second_true _ _ to_place));
      };
      size_is = either_size size (second_true _ _ to_size);
      known = known;
      short = op_below op known;
      value_fits = fits_below value size (second_true _ _ to_value);
      expected_fits = fits_below expected size (second_true _ _ to_expected);
    }

pub lookup_asked : (plan : ShardPlan) (history : List Entry) (who : Caller) (shard : ℕ) (key : List ℕ) →
    IsTrue (meets plan history who (Lookup shard key)) → length key ≡ plan.definition.key_size
lookup_asked plan history who shard key met = key_sized plan key (second_true (is_inside_worker plan history who) (is_own_key plan key) (part_met plan history who (Lookup shard key) met))

pub delete_asked : (plan : ShardPlan) (history : List Entry) (who : Caller) (shard : ℕ) (key : List ℕ) →
    IsTrue (meets plan history who (Delete shard key)) → length key ≡ plan.definition.key_size
delete_asked plan history who shard key met = key_sized plan key (second_true (may_change_keys plan history who) (is_own_key plan key) (part_met plan history who (Delete shard key) met))

pub update_asked_key : (plan : ShardPlan) (history : List Entry) (who : Caller) (shard : ℕ) (key value : List ℕ) (flags : ℕ) →
    IsTrue (meets plan history who (Update shard key value flags)) → length key ≡ plan.definition.key_size
update_asked_key plan history who shard key value flags met =
    key_sized plan key (second_true (may_change_keys plan history who) (is_own_key plan key) (first_true _ _ (part_met plan history who (Update shard key value flags) met)))

pub update_asked_value : (plan : ShardPlan) (history : List Entry) (who : Caller) (shard : ℕ) (key value : List ℕ) (flags : ℕ) →
    IsTrue (meets plan history who (Update shard key value flags)) → length value ≡ plan.definition.value_size
update_asked_value plan history who shard key value flags met =
    same_number _ _ (first_true (length value == plan.definition.value_size) (are_bytes value) (first_true (is_value plan value) (are_flags flags) (second_true _ _ (part_met plan history who (Update shard key value flags) met))))
