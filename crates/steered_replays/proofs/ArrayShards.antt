-- An array's shard that Updates alone changed: each cell holds the value of its last Update that was answered 0, or zeros.
use Rattle.std.proofs.Common.{◌≡◌, ◌⊎◌, inl, inr, ℕ, zero, ◌+◌, ◌/◌, ◌<◌, ◌==◌, ◌&&◌, Bool, true, false, List, [], ◌∷◌, ◌++◌, length, replicate, refl, sym, ◌∙◌, ap, subst}
use Rattle.std.specs.Prelude.{ℤ, pos, negsuc, Option, Some, None, if◌then◌else◌, slice_index_or, nat_lt, IsTrue}
use Rattle.std.specs.List.{AllByRecursion}
use Rattle.std.proofs.lemmas.Bool.{eqb-true, eqb-false}
use Rattle.std.proofs.lemmas.List.{get_or-set_same, get_or-set_other, length-set, length-replicate, get_or-replicate}
use Rattle.ebpf_decode.specs.declared.map.MapDef.{MapDef}
use Rattle.ebpf_decode.specs.declared.map.MapKind.{MapKind}
use Rattle.ebpf_decode.specs.declared.map.MapKind.TheVariants.{Array}
use Rattle.semantics.specs.declared.call.Call.{Call}
use Rattle.semantics.specs.declared.call.Call.TheVariants.{Enter, Leave, Lookup, Load, Store, Atomic, Update, Delete, Reclaim}
use Rattle.semantics.specs.declared.call.Caller.{Caller}
use Rattle.semantics.specs.declared.call.Caller.TheVariants.{Controller}
use Rattle.semantics.specs.declared.call.Entry.{Entry}
use Rattle.semantics.specs.declared.call.Reply.{Reply}
use Rattle.semantics.specs.declared.call.Reply.TheVariants.{Answer}
use Rattle.semantics.specs.declared.linux.UpdateFlags.{UpdateFlags}
use Rattle.semantics.specs.declared.options.Options.{Options}
use Rattle.semantics.specs.declared.plan.ShardPlan.{ShardPlan}
use Rattle.semantics.specs.CallerLaws.{is_caller, is_controller, own_entries}
use Rattle.semantics.specs.History.{IsLegalHistory, meets, may_change_keys, is_own_key, is_value, are_flags, are_bytes}
use Rattle.semantics.specs.Linux.{update_flags_of}
use Rattle.semantics.specs.LittleEndian.{number_of_bytes}
use Rattle.semantics.specs.SequentialShard.{SequentialShard, shard_after, shard_after_call, cell_bytes, cell_of_index, cell_of_kind, cell_of_key, opening_cells, update_answer, update_answer_by, updated_where, with_value, reply_of}
use Rattle.semantics.specs.ShardPlan.{capacity}
use Rattle.semantics.proofs.shared.CallNumbers.{same_number}
use Rattle.semantics.proofs.shared.ConditionLemmas.{first_true, second_true}
use Rattle.actors.specs.Commands.{AnsweredUpdate, with_updates, with_update, controller_entry}
use Rattle.actors.specs.SharedUpdates.{shard_of}
use Rattle.steered_replays.specs.Counting.{IsQuiet}

-- ---- the last value that was put

abbrev pub is_success : ℤ → Bool
is_success (pos answer) = answer == 0
is_success (negsuc answer) = false

abbrev pub succeeded : Reply → Bool
succeeded (Answer code) = is_success code
succeeded reply = false

-- in a shard that has every so many indices
abbrev pub put_by : ℕ → ℕ → Call → Reply → List ℕ → List ℕ
put_by parts cell (Update number key value flags) reply before = if succeeded reply && (number_of_bytes key / parts == cell) then value else before
put_by parts cell call reply before = before

abbrev pub last_put : ℕ → ℕ → List ℕ → List Entry → List ℕ
last_put parts cell first [] = first
last_put parts cell first (entry ∷ older) = put_by parts cell entry.call entry.reply (last_put parts cell first older)

abbrev pub IsSetting : Call → Type 0
IsSetting (Update number key value flags) = Unit {0}
IsSetting call = IsQuiet call

-- ---- the shard's cells

record Holds (shard : SequentialShard) (cell : ℕ) (value : List ℕ) : Type 0 where
  there : cell < length shard.cells
  bytes : cell_bytes shard cell ≡ value

opening : (plan : ShardPlan) (cell : ℕ) → plan.definition.kind ≡ Array → cell < capacity plan →
    Holds (shard_after plan []) cell (replicate plan.definition.value_size 0)
opening plan cell array within = record {
  there = subst (λ (kind : MapKind). cell < length (opening_cells kind plan)) (sym array)
      (subst (λ n. cell < n) (sym (length-replicate (capacity plan) (replicate plan.definition.value_size 0))) within);
  bytes = subst (λ (kind : MapKind). slice_index_or (opening_cells kind plan) cell [] ≡ replicate plan.definition.value_size 0) (sym array)
      (get_or-replicate (capacity plan) cell (replicate plan.definition.value_size 0) [] within);
}

answered_found : (plan : ShardPlan) (shard : SequentialShard) (flags : Option UpdateFlags) (found : Option ℕ) →
    update_answer_by Array plan shard flags found ≡ pos 0 → (cell : ℕ) × (found ≡ Some cell)
answered_found plan shard None found is = absurd cc
answered_found plan shard (Some flags) None is = absurd cc
answered_found plan shard (Some flags) (Some cell) is = (cell, refl)

index_cell : (plan : ShardPlan) (index cell : ℕ) → cell_of_index plan index ≡ Some cell → cell ≡ index / plan.parts
index_cell plan index cell is = by (nat_lt index plan.definition.max_entries) is
  where
    by : (test : Bool) → (if test then Some (index / plan.parts) else None) ≡ Some cell → cell ≡ index / plan.parts
    by true same = cc
    by false same = absurd cc

module _ (plan : ShardPlan) (array : plan.definition.kind ≡ Array) (older : List Entry) (shard : SequentialShard) (cell : ℕ) (before : List ℕ)
    (holds : Holds shard cell before) where
  set_cell : (key value : List ℕ) (found : Option ℕ) → found ≡ Some (number_of_bytes key / plan.parts) → (same : Bool) →
      (number_of_bytes key / plan.parts == cell) ≡ same → Holds (with_value plan older shard key value found) cell (if same then value else before)
  set_cell key value None is same test = absurd cc
  set_cell key value (Some other) is true test =
      let at : other ≡ number_of_bytes key / plan.parts = cc is in
      let here : other ≡ cell = at ∙ eqb-true (number_of_bytes key / plan.parts) cell test in
      let there : other < length shard.cells = subst (λ c. c < length shard.cells) (sym here) holds.there in
      record {
        there = (let same_length = length-set shard.cells other value in subst (λ n. cell < n) (sym same_length) holds.there);
        bytes = ap (λ c. slice_index_or (with_value plan older shard key value (Some other)).cells c []) (sym here)
            ∙ get_or-set_same shard.cells other value [] there;
      }
  set_cell key value (Some other) is false test =
      let at : other ≡ number_of_bytes key / plan.parts = cc is in
      record {
        there = (let same_length = length-set shard.cells other value in subst (λ n. cell < n) (sym same_length) holds.there);
        bytes = get_or-set_other shard.cells other cell value [] (λ same. eqb-false (number_of_bytes key / plan.parts) cell test (sym at ∙ sym same)) ∙ holds.bytes;
      }

  set_by : (key value : List ℕ) (flags : ℕ) → Holds (updated_where (update_answer plan shard key flags) (with_value plan older shard key value (cell_of_key plan shard key)) shard) cell
      (if is_success (update_answer plan shard key flags) && (number_of_bytes key / plan.parts == cell) then value else before)
  set_by key value flags = by_answer (update_answer plan shard key flags) refl
    where
      kept : cell_of_key plan shard key ≡ cell_of_index plan (number_of_bytes key)
      kept = ap (λ (kind : MapKind). cell_of_kind kind plan shard key) array

      found_at : update_answer plan shard key flags ≡ pos 0 → cell_of_key plan shard key ≡ Some (number_of_bytes key / plan.parts)
      found_at is =
          let by_array : update_answer_by Array plan shard (update_flags_of flags) (cell_of_key plan shard key) ≡ pos 0 =
          ap (λ (kind : MapKind). update_answer_by kind plan shard (update_flags_of flags) (cell_of_key plan shard key)) (sym array) ∙ is in
          let found = answered_found plan shard (update_flags_of flags) (cell_of_key plan shard key) by_array in
          found.1 ∙ ap Some (index_cell plan (number_of_bytes key) found.0 (sym kept ∙ found.1))

      by_zero : (n : ℕ) → update_answer plan shard key flags ≡ pos n → (zero : Bool) → (n == 0) ≡ zero →
          Holds (if zero then with_value plan older shard key value (cell_of_key plan shard key) else shard) cell
          (if zero && (number_of_bytes key / plan.parts == cell) then value else before)
      by_zero n is true test =
          set_cell key value (cell_of_key plan shard key) (found_at (is ∙ ap pos (eqb-true n 0 test))) (number_of_bytes key / plan.parts == cell) refl
      by_zero n is false test = holds

      by_answer : (answer : ℤ) → update_answer plan shard key flags ≡ answer →
          Holds (updated_where answer (with_value plan older shard key value (cell_of_key plan shard key)) shard) cell
          (if is_success answer && (number_of_bytes key / plan.parts == cell) then value else before)
      by_answer (pos n) is = by_zero n is (n == 0) refl
      by_answer (negsuc n) is = holds

  call_holds : (call : Call) (reply : Reply) → IsSetting call → reply ≡ reply_of plan older shard call → Holds (shard_after_call plan older shard call) cell (put_by plan.parts cell call reply before)
  call_holds (Update number key value flags) reply sets replied =
      subst (λ (r : Reply). Holds (shard_after_call plan older shard (Update number key value flags)) cell (put_by plan.parts cell (Update number key value flags) r before)) (sym replied)
      (set_by key value flags)
  call_holds (Enter number) reply sets replied = holds
  call_holds (Leave number) reply sets replied = holds
  call_holds (Lookup number key) reply sets replied = holds
  call_holds (Load ref offset size) reply sets replied = holds
  call_holds (Store ref offset size value) reply sets replied = absurd sets
  call_holds (Atomic ref offset size op value expected) reply sets replied = absurd sets
  call_holds (Delete number key) reply sets replied = absurd sets
  call_holds (Reclaim number) reply sets replied = absurd sets

holds_after : (plan : ShardPlan) (history : List Entry) (cell : ℕ) → plan.definition.kind ≡ Array → cell < capacity plan → IsLegalHistory plan history →
    AllByRecursion (λ (entry : Entry). IsSetting entry.call) history →
    Holds (shard_after plan history) cell (last_put plan.parts cell (replicate plan.definition.value_size 0) history)
holds_after plan [] cell array within legal all = opening plan cell array within
holds_after plan (entry ∷ older) cell array within legal all =
    call_holds plan array older (shard_after plan older) cell (last_put plan.parts cell (replicate plan.definition.value_size 0) older)
    (holds_after plan older cell array within legal.1 all.1) entry.call entry.reply all.0 legal.0.step.replied

pub cell_after : (plan : ShardPlan) (history : List Entry) (cell : ℕ) → plan.definition.kind ≡ Array → cell < capacity plan → IsLegalHistory plan history →
    AllByRecursion (λ (entry : Entry). IsSetting entry.call) history →
    cell_bytes (shard_after plan history) cell ≡ last_put plan.parts cell (replicate plan.definition.value_size 0) history
cell_after plan history cell array within legal all = (holds_after plan history cell array within legal all).bytes

-- a legal history puts values of the map's size
value_sized : (plan : ShardPlan) (older : List Entry) (who : Caller) (number : ℕ) (key value : List ℕ) (flags : ℕ) →
    IsTrue (meets plan older who (Update number key value flags)) → length value ≡ plan.definition.value_size
value_sized plan older who number key value flags met =
    let part : IsTrue ((may_change_keys plan older who && is_own_key plan key) && (is_value plan value && are_flags flags)) =
    second_true (number == plan.number) _ met in
    let set : IsTrue (is_value plan value && are_flags flags) = second_true (may_change_keys plan older who && is_own_key plan key) _ part in
    let value_is : IsTrue (is_value plan value) = first_true (is_value plan value) (are_flags flags) set in
    same_number _ _ (first_true (length value == plan.definition.value_size) (are_bytes value) value_is)

put_sized : (plan : ShardPlan) (older : List Entry) (cell : ℕ) (who : Caller) (reply : Reply) (before : List ℕ) → length before ≡ plan.definition.value_size →
    (call : Call) → IsTrue (meets plan older who call) → length (put_by plan.parts cell call reply before) ≡ plan.definition.value_size
put_sized plan older cell who reply before rest (Update number key value flags) met = by (succeeded reply && (number_of_bytes key / plan.parts == cell))
  where
    by : (test : Bool) → length (if test then value else before) ≡ plan.definition.value_size
    by true = value_sized plan older who number key value flags met
    by false = rest
put_sized plan older cell who reply before rest (Enter number) met = rest
put_sized plan older cell who reply before rest (Leave number) met = rest
put_sized plan older cell who reply before rest (Lookup number key) met = rest
put_sized plan older cell who reply before rest (Load ref offset size) met = rest
put_sized plan older cell who reply before rest (Store ref offset size value) met = rest
put_sized plan older cell who reply before rest (Atomic ref offset size op value expected) met = rest
put_sized plan older cell who reply before rest (Delete number key) met = rest
put_sized plan older cell who reply before rest (Reclaim number) met = rest

pub last_sized : (plan : ShardPlan) (cell : ℕ) (first : List ℕ) → length first ≡ plan.definition.value_size → (history : List Entry) → IsLegalHistory plan history →
    length (last_put plan.parts cell first history) ≡ plan.definition.value_size
last_sized plan cell first sized [] legal = sized
last_sized plan cell first sized (entry ∷ older) legal =
    put_sized plan older cell entry.who entry.reply (last_put plan.parts cell first older) (last_sized plan cell first sized older legal.1) entry.call legal.0.step.met

-- ---- by the controller's own entries

-- an entry of the controller, or one that changes nothing
abbrev pub IsControlled : Entry → Type 0
IsControlled entry = IsQuiet entry.call ⊎ (entry.who ≡ Controller)

quiet_puts : (parts cell : ℕ) (call : Call) (reply : Reply) (before : List ℕ) → IsQuiet call → put_by parts cell call reply before ≡ before
quiet_puts parts cell (Enter number) reply before quiet = refl
quiet_puts parts cell (Leave number) reply before quiet = refl
quiet_puts parts cell (Lookup number key) reply before quiet = refl
quiet_puts parts cell (Load ref offset size) reply before quiet = refl
quiet_puts parts cell _ reply before quiet = absurd quiet

pub own_puts : (parts cell : ℕ) (first : List ℕ) (history : List Entry) → AllByRecursion IsControlled history →
    last_put parts cell first history ≡ last_put parts cell first (own_entries Controller history)
own_puts parts cell first [] all = refl
own_puts parts cell first (entry ∷ older) all = by (own_puts parts cell first older all.1) all.0 (is_caller Controller entry.who) refl
  where
    by : last_put parts cell first older ≡ last_put parts cell first (own_entries Controller older) → IsControlled entry → (test : Bool) →
        is_caller Controller entry.who ≡ test →
        put_by parts cell entry.call entry.reply (last_put parts cell first older)
        ≡ last_put parts cell first (if test then entry ∷ own_entries Controller older else own_entries Controller older)
    by rest one true is = ap (put_by parts cell entry.call entry.reply) rest
    by rest (inl quiet) false is = quiet_puts parts cell entry.call entry.reply (last_put parts cell first older) quiet ∙ rest
    by rest (inr own) false is = absurd (let made : is_controller entry.who ≡ true = ap is_controller own in cc)

-- ---- by the updates that were made

abbrev pub put_made : (AnsweredUpdate → Bool) → List AnsweredUpdate → List ℕ → List ℕ
put_made at [] before = before
put_made at (made ∷ later) before = put_made at later (if at made then made.update.value else before)

abbrev pub is_in_cell : List MapDef → Options → ℕ → ℕ → ℕ → AnsweredUpdate → Bool
is_in_cell maps options number parts cell made =
    (shard_of maps options made.update == number) && (is_success made.answer && (number_of_bytes made.update.key / parts == cell))

pub updates_put : (maps : List MapDef) (options : Options) (number parts cell : ℕ) (first : List ℕ) (made : List AnsweredUpdate) (history : List Entry) →
    last_put parts cell first (with_updates maps options number made history)
    ≡ put_made (is_in_cell maps options number parts cell) made (last_put parts cell first history)
updates_put maps options number parts cell first [] history = refl
updates_put maps options number parts cell first (made ∷ later) history =
    updates_put maps options number parts cell first later (with_update maps options number made history)
    ∙ ap (put_made (is_in_cell maps options number parts cell) later) (by (shard_of maps options made.update == number))
  where
    by : (test : Bool) → last_put parts cell first (if test then controller_entry number made ∷ history else history)
        ≡ (if test && (is_success made.answer && (number_of_bytes made.update.key / parts == cell)) then made.update.value else last_put parts cell first history)
    by true = refl
    by false = refl

pub same_put : (at other : AnsweredUpdate → Bool) (made : List AnsweredUpdate) (before : List ℕ) → AllByRecursion (λ (one : AnsweredUpdate). at one ≡ other one) made →
    put_made at made before ≡ put_made other made before
same_put at other [] before all = refl
same_put at other (made ∷ later) before all =
    same_put at other later (if at made then made.update.value else before) all.1
    ∙ ap (λ (test : Bool). put_made other later (if test then made.update.value else before)) all.0

pub put_both : (at : AnsweredUpdate → Bool) (made more : List AnsweredUpdate) (before : List ℕ) →
    put_made at (made ++ more) before ≡ put_made at more (put_made at made before)
put_both at [] more before = refl
put_both at (one ∷ made) more before = put_both at made more (if at one then one.update.value else before)

pub none_put : (at : AnsweredUpdate → Bool) (made : List AnsweredUpdate) (before : List ℕ) → AllByRecursion (λ (one : AnsweredUpdate). at one ≡ false) made →
    put_made at made before ≡ before
none_put at [] before all = refl
none_put at (made ∷ later) before all =
    ap (λ (test : Bool). put_made at later (if test then made.update.value else before)) all.0 ∙ none_put at later before all.1
