-- A call that its caller may make is one that a file may have: its numbers, keys and values fit.
use Rattle.std.proofs.Common.{◌≡◌, ℕ, zero, suc, ◌+◌, ◌^◌, ◌<◌, ◌≤◌, ◌==◌, Bool, true, false, ◌&&◌, ◌||◌, nat_lt, List, [], ◌∷◌, length, IsTrue, arith, lit<, refl, sym, ◌∙◌}
use Rattle.std.specs.Prelude.{is_some, if◌then◌else◌}
use Rattle.std.specs.List.{AllByRecursion}
use Rattle.std.proofs.Math.Nat.{pow-le-pow_right}
use Rattle.std.proofs.lemmas.Bool.Decides.{nat_tests}
use Rattle.isa.specs.InstructionCodes.{atomic_op_of}
use Rattle.semantics.specs.declared.call.Caller.{Caller}
use Rattle.semantics.specs.declared.call.Caller.TheVariants.{Worker, Controller, Reclaimer}
use Rattle.semantics.specs.declared.call.Call.{Call}
use Rattle.semantics.specs.declared.call.Call.TheVariants.{Enter, Leave, Lookup, Load, Store, Atomic, Update, Delete, Reclaim}
use Rattle.semantics.specs.declared.call.Reply.{Reply}
use Rattle.semantics.specs.declared.call.Reply.TheVariants.{Entered, Left, Cell, Null, Word, Done, Answer, Freed}
use Rattle.semantics.specs.declared.call.Entry.{Entry}
use Rattle.semantics.specs.declared.plan.ShardPlan.{ShardPlan}
use Rattle.semantics.specs.PlanLimits.{IsPlan}
use Rattle.semantics.specs.Program.{part_of_key}
use Rattle.semantics.specs.Reclamation.{is_worker, held_by, holds}
use Rattle.semantics.specs.History.{shard_of_call, is_holder, is_own_key, is_value, are_bytes, are_flags, is_in_cell}
use Rattle.semantics.specs.History.{is_aligned, fits_size, meets_part}
use Rattle.semantics.proofs.shared.CallNumbers.{below_of, same_number, narrow_load, narrow_atomic, op_below, part_below, key_sized}
use Rattle.semantics.proofs.shared.ConditionLemmas.{first_true, second_true}
use Rattle.semantics.proofs.shared.HoldingLemmas.{found_cell, held_by_lookup}
use Rattle.journals.specs.EntryForm.{IsNumber, IsShardNumber, IsKey, IsValue, CallerFits, CallFits, IsFinding, ReplyFits, HasSizesOf}
use Rattle.hex.specs.Hex.{IsBytes}
use Rattle.semantics.specs.ByteCells.{AreBytes}
use Rattle.semantics.proofs.shared.CellBytes.{bytes_tested}

-- ---- bytes

are_by_index : (bytes : List ℕ) → AreBytes bytes → IsBytes bytes
are_by_index [] each i = omega arith
are_by_index (byte ∷ bytes) each zero = each.0
are_by_index (byte ∷ bytes) each (suc i) = are_by_index bytes each.1 i

-- ---- numbers

-- a number of at most eight bytes
pub is_number : (value size : ℕ) → size ≤ 8 → value < 256 ^ size → IsNumber value
is_number value size narrow below =
    let at_most : 256 ^ size ≤ 256 ^ 8 = pow-le-pow_right {n = 256} (lit< tt) {i = size} {j = 8} narrow in
    omega (arith, below, at_most)

sized_number : (value size : ℕ) → size ≤ 8 → IsTrue (fits_size value size) → IsNumber value
sized_number value size narrow test = is_number value size narrow (below_of value (256 ^ size) test)

op_number : (op : ℕ) → IsTrue (is_some (atomic_op_of op)) → IsNumber op
op_number op known = let below : op < 256 = op_below op known in omega (arith, below)

within_value : (plan : ShardPlan) (offset size : ℕ) → IsPlan plan → IsTrue (is_in_cell plan offset size) → offset + size ≤ 256
within_value plan offset size is test =
    let most : plan.definition.value_size ≤ 256 = is.limits.value_size in
    grind (arith, nat_tests)

offset_number : (plan : ShardPlan) (offset size : ℕ) → IsPlan plan → IsTrue (is_in_cell plan offset size) → IsNumber offset
offset_number plan offset size is test = let within : offset + size ≤ 256 = within_value plan offset size is test in omega (arith, within)

size_number : (plan : ShardPlan) (offset size : ℕ) → IsPlan plan → IsTrue (is_in_cell plan offset size) → IsNumber size
size_number plan offset size is test = let within : offset + size ≤ 256 = within_value plan offset size is test in omega (arith, within)

shard_fits : (shard number : ℕ) → shard ≡ number → IsShardNumber number → IsShardNumber shard
shard_fits shard number same few = omega (arith, same, few)

-- ---- keys and values

key_fits : (plan : ShardPlan) (key : List ℕ) → IsPlan plan → IsTrue (is_own_key plan key) → IsKey key
key_fits plan key is own =
    let long : length key ≡ plan.definition.key_size = key_sized plan key own in (
      omega (arith, long, is.limits.key_size),
      are_by_index key (bytes_tested key (second_true (part_of_key plan.definition.kind plan.parts key == plan.part) (are_bytes key)
          (second_true (length key == plan.definition.key_size) _ own))),
    )

sized_value : (plan : ShardPlan) (value : List ℕ) → IsTrue (is_value plan value) → length value ≡ plan.definition.value_size
sized_value plan value valued = same_number _ _ (first_true (length value == plan.definition.value_size) _ valued)

value_fits : (plan : ShardPlan) (value : List ℕ) → IsPlan plan → IsTrue (is_value plan value) → IsValue value
value_fits plan value is valued =
    let long : length value ≡ plan.definition.value_size = sized_value plan value valued in (
      omega (arith, long, is.limits.value_size),
      are_by_index value (bytes_tested value (second_true (length value == plan.definition.value_size) (are_bytes value) valued)),
    )

-- ---- callers

pub caller_fits : (plan : ShardPlan) (history : List Entry) (who : Caller) (call : Call) → IsPlan plan → IsTrue (meets_part plan history who call) →
    CallerFits who
caller_fits plan history (Worker number) call is met =
    let below : number < plan.workers = part_below plan history number call met in
    omega (arith, below, is.at_most_eight)
caller_fits plan history Controller call is met = tt
caller_fits plan history Reclaimer call is met = tt

-- ---- cells that callers hold: those of fitting replies

-- the entry's reply is of its call's form
abbrev pub HasReply : Entry → Type 0
HasReply entry = ReplyFits entry.call entry.reply

found_fits : (shard : ℕ) (reply : Reply) (cell : ℕ) (before : Bool) → IsFinding shard reply → (IsTrue before → IsNumber cell) →
    IsTrue (found_cell reply cell || before) → IsNumber cell
found_fits shard (Cell found) cell before fits was held = by_test (found.id == cell) refl held
  where
    by_test : (same : Bool) → (found.id == cell) ≡ same → IsTrue (same || before) → IsNumber cell
    by_test true is held = let same : found.id ≡ cell = same_number found.id cell is in omega (arith, same, fits.1)
    by_test false is held = was held
found_fits shard Entered cell before fits was held = was held
found_fits shard Left cell before fits was held = was held
found_fits shard Null cell before fits was held = was held
found_fits shard (Word value) cell before fits was held = was held
found_fits shard Done cell before fits was held = was held
found_fits shard (Answer code) cell before fits was held = was held
found_fits shard (Freed count) cell before fits was held = was held

held_by_fits : (call : Call) (reply : Reply) (cell : ℕ) (before : Bool) → ReplyFits call reply → (IsTrue before → IsNumber cell) →
    IsTrue (held_by call reply cell before) → IsNumber cell
unfolding ReplyFits
held_by_fits (Enter shard) reply cell before fits was held = absurd cc
held_by_fits (Leave shard) reply cell before fits was held = absurd cc
held_by_fits (Lookup shard key) reply cell before fits was held = found_fits shard reply cell before fits was (sym (held_by_lookup shard key reply cell before) ∙ held)
held_by_fits (Load at offset size) reply cell before fits was held = was held
held_by_fits (Store at offset size value) reply cell before fits was held = was held
held_by_fits (Atomic at offset size op value expected) reply cell before fits was held = was held
held_by_fits (Update shard key value flags) reply cell before fits was held = was held
held_by_fits (Delete shard key) reply cell before fits was held = was held
held_by_fits (Reclaim shard) reply cell before fits was held = was held

held_fits : (worker cell : ℕ) (history : List Entry) → AllByRecursion HasReply history → IsTrue (holds worker cell history) → IsNumber cell
held_fits worker cell [] replies held = absurd cc
held_fits worker cell (entry ∷ older) replies held = by_own (is_worker worker entry.who) held (held_fits worker cell older replies.1)
  where
    by_own : (own : Bool) → IsTrue (if own then held_by entry.call entry.reply cell (holds worker cell older) else holds worker cell older) →
        (IsTrue (holds worker cell older) → IsNumber cell) → IsNumber cell
    by_own true held was = held_by_fits entry.call entry.reply cell (holds worker cell older) replies.0 was held
    by_own false held was = was held

holder_fits : (plan : ShardPlan) (history : List Entry) (who : Caller) (cell : ℕ) → AllByRecursion HasReply history →
    IsTrue (is_holder plan history who cell) → IsNumber cell
holder_fits plan history Controller cell replies held = absurd cc
holder_fits plan history Reclaimer cell replies held = absurd cc
holder_fits plan history (Worker number) cell replies held =
    held_fits number cell history replies (second_true (nat_lt number plan.workers) (holds number cell history) held)

-- ---- calls

pub call_fits : (plan : ShardPlan) (history : List Entry) (who : Caller) (call : Call) → IsPlan plan → AllByRecursion HasReply history →
    IsShardNumber (shard_of_call call) → IsTrue (meets_part plan history who call) → CallFits call
unfolding CallFits
call_fits plan history who (Enter shard) is replies few met = few
call_fits plan history who (Leave shard) is replies few met = few
call_fits plan history who (Lookup shard key) is replies few met = (few, key_fits plan key is (second_true _ _ met))
call_fits plan history who (Load cell offset size) is replies few met =
    let inside : IsTrue (is_in_cell plan offset size) = second_true _ _ met in (
      (few, holder_fits plan history who cell.id replies (first_true _ _ (first_true _ _ met))),
      offset_number plan offset size is inside,
      size_number plan offset size is inside,
    )
call_fits plan history who (Store cell offset size value) is replies few met =
    let to_cell = first_true _ _ met in
    let to_size = first_true _ _ to_cell in
    let inside : IsTrue (is_in_cell plan offset size) = second_true _ _ to_cell in
    let narrow : size ≤ 8 = narrow_load size (second_true _ _ to_size) in (
      (few, holder_fits plan history who cell.id replies (first_true _ _ to_size)),
      offset_number plan offset size is inside,
      size_number plan offset size is inside,
      sized_number value size narrow (second_true _ _ met),
    )
call_fits plan history who (Atomic cell offset size op value expected) is replies few met =
    let to_expected = first_true _ _ met in
    let to_value = first_true _ _ to_expected in
    let to_op = first_true _ _ to_value in
    let to_place = first_true _ _ to_op in
    let to_size = first_true _ _ to_place in
    let inside : IsTrue (is_in_cell plan offset size) = first_true (is_in_cell plan offset size) (is_aligned offset size) (second_true _ _ to_place) in
    let narrow : size ≤ 8 = narrow_atomic size (second_true _ _ to_size) in (
      (few, holder_fits plan history who cell.id replies (first_true _ _ to_size)),
      offset_number plan offset size is inside,
      size_number plan offset size is inside,
      op_number op (second_true _ _ to_op),
      sized_number value size narrow (second_true _ _ to_value),
      sized_number expected size narrow (second_true _ _ to_expected),
    )
call_fits plan history who (Update shard key value flags) is replies few met =
    let own : IsTrue (is_own_key plan key) = second_true _ _ (first_true _ _ met) in
    let set : IsTrue (is_value plan value && are_flags flags) = second_true _ _ met in (
      few,
      key_fits plan key is own,
      value_fits plan value is (first_true (is_value plan value) (are_flags flags) set),
      below_of flags (2 ^ 64) (second_true (is_value plan value) (are_flags flags) set),
    )
call_fits plan history who (Delete shard key) is replies few met = (few, key_fits plan key is (second_true _ _ met))
call_fits plan history who (Reclaim shard) is replies few met = few

pub sizes_fit : (plan : ShardPlan) (history : List Entry) (who : Caller) (call : Call) → IsTrue (meets_part plan history who call) →
    HasSizesOf plan.definition call
unfolding HasSizesOf
sizes_fit plan history who (Enter shard) met = (tt, tt)
sizes_fit plan history who (Leave shard) met = (tt, tt)
sizes_fit plan history who (Lookup shard key) met = (key_sized plan key (second_true _ _ met), tt)
sizes_fit plan history who (Load cell offset size) met = (tt, tt)
sizes_fit plan history who (Store cell offset size value) met = (tt, tt)
sizes_fit plan history who (Atomic cell offset size op value expected) met = (tt, tt)
sizes_fit plan history who (Update shard key value flags) met = (
  key_sized plan key (second_true _ _ (first_true _ _ met)),
  sized_value plan value (first_true (is_value plan value) (are_flags flags) (second_true _ _ met)),
)
sizes_fit plan history who (Delete shard key) met = (key_sized plan key (second_true _ _ met), tt)
sizes_fit plan history who (Reclaim shard) met = (tt, tt)
