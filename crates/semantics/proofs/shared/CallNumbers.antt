-- What a caller's condition says of the numbers in its call.
use Rattle.std.proofs.Common.{◌≡◌, ℕ, ◌<◌, ◌≤◌, ◌^◌, ◌==◌, false, nat_lt, List, length, arith}
use Rattle.std.specs.Prelude.{IsTrue, is_some}
use Rattle.std.proofs.lemmas.Bool.Decides.{nat_tests}
use Rattle.isa.specs.InstructionCodes.{atomic_op_of}
use Rattle.semantics.specs.declared.call.Entry.{Entry}
use Rattle.semantics.specs.declared.call.Caller.TheVariants.{Worker}
use Rattle.semantics.specs.declared.call.Call.{Call}
use Rattle.semantics.specs.declared.call.Call.TheVariants.{Enter, Leave, Lookup, Load, Store, Atomic, Update, Delete, Reclaim}
use Rattle.semantics.specs.declared.plan.ShardPlan.{ShardPlan}
use Rattle.semantics.specs.History.{is_own_key, is_load_size, is_atomic_size, fits_size, meets_part}
use Rattle.semantics.proofs.shared.ConditionLemmas.{first_true}

pub below_of : (a b : ℕ) → IsTrue (nat_lt a b) → a < b
below_of a b test = grind (arith, nat_tests)

pub not_over : (most count : ℕ) → nat_lt most count ≡ false → count ≤ most
not_over most count test = grind (arith, nat_tests)

pub same_number : (a b : ℕ) → IsTrue (a == b) → a ≡ b
same_number a b test = grind (arith, nat_tests)

pub narrow_load : (size : ℕ) → IsTrue (is_load_size size) → size ≤ 8
narrow_load size test = grind (arith, nat_tests)

pub narrow_atomic : (size : ℕ) → IsTrue (is_atomic_size size) → size ≤ 8
narrow_atomic size test = grind (arith, nat_tests)

pub op_below : (op : ℕ) → IsTrue (is_some (atomic_op_of op)) → op < 256
op_below op known = grind (arith, nat_tests)

pub fits_below : (value size : ℕ) → IsTrue (fits_size value size) → value < 256 ^ size
fits_below value size test = grind (arith, nat_tests)

pub key_sized : (plan : ShardPlan) (key : List ℕ) → IsTrue (is_own_key plan key) → length key ≡ plan.definition.key_size
key_sized plan key met = same_number _ _ (first_true (length key == plan.definition.key_size) _ met)

-- a worker that calls is one of the plan's
pub part_below : (plan : ShardPlan) (history : List Entry) (worker : ℕ) (call : Call) → IsTrue (meets_part plan history (Worker worker) call) →
    worker < plan.workers
part_below plan history worker (Enter shard) met = below_of worker plan.workers (first_true _ _ met)
part_below plan history worker (Leave shard) met = below_of worker plan.workers (first_true _ _ met)
part_below plan history worker (Lookup shard key) met = below_of worker plan.workers (first_true _ _ (first_true _ _ met))
part_below plan history worker (Load cell offset size) met = below_of worker plan.workers (first_true _ _ (first_true _ _ (first_true _ _ met)))
part_below plan history worker (Store cell offset size value) met =
    below_of worker plan.workers (first_true _ _ (first_true _ _ (first_true _ _ (first_true _ _ met))))
part_below plan history worker (Atomic cell offset size op value expected) met =
    below_of worker plan.workers
    (first_true _ _ (first_true _ _ (first_true _ _ (first_true _ _ (first_true _ _ (first_true _ _ (first_true _ _ met)))))))
part_below plan history worker (Update shard key value flags) met = below_of worker plan.workers (first_true _ _ (first_true _ _ (first_true _ _ met)))
part_below plan history worker (Delete shard key) met = below_of worker plan.workers (first_true _ _ (first_true _ _ met))
part_below plan history worker (Reclaim shard) met = absurd cc
