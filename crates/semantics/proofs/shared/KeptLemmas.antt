-- A held cell is kept: it has a present key, or waits for its readers.
use Rattle.std.proofs.Common.{◌≡◌, ℕ, ◌+◌, ◌*◌, ◌/◌, ◌%◌, ◌<◌, ◌≤◌, div-add-mod', Bool, true, false, cond, ◌||◌, not, nat_lt, List, [], ◌∷◌, ◌++◌, length, replicate, Option, Some, None, arith, refl, sym, ◌∙◌, ap, subst}
use Rattle.std.specs.Prelude.{◌==◌, filter, find, option_map, bytes_eq, if◌then◌else◌}
use Rattle.std.specs.List.{AllByRecursion, list_any}
use Rattle.std.proofs.lemmas.Nat.{div_below}
use Rattle.std.proofs.lemmas.List.{length-replicate, append-nil}
use Rattle.std.proofs.lemmas.Map.Views.{any-filter_same}
use Rattle.std.proofs.lemmas.Bool.Decides.{nat_tests}
use Rattle.ebpf_decode.specs.declared.map.MapKind.{MapKind}
use Rattle.ebpf_decode.specs.declared.map.MapKind.TheVariants.{Array, Hash, LruHash}
use Rattle.semantics.specs.declared.call.Reply.{Reply}
use Rattle.semantics.specs.declared.call.Call.{Call}
use Rattle.semantics.specs.declared.call.Call.TheVariants.{Enter, Leave, Lookup, Load, Store, Atomic, Update, Delete, Reclaim}
use Rattle.semantics.specs.declared.call.Entry.{Entry}
use Rattle.semantics.specs.declared.plan.PresentKey.{PresentKey}
use Rattle.semantics.specs.declared.plan.RetiredCell.{RetiredCell}
use Rattle.semantics.specs.LittleEndian.{number_of_bytes}
use Rattle.semantics.specs.ShardPlan.{ShardPlan, capacity}
use Rattle.semantics.specs.PlanLimits.{IsPlan}
use Rattle.semantics.specs.Reclamation.{is_worker, held_by, holds, is_reclaimable}
use Rattle.semantics.specs.SequentialShard.{SequentialShard, opening_cells, cell_of_present, cell_of_kind, cell_of_key, without_key, without_found, after_eviction, with_value, update_answer, delete_answer, present_key, shard_after_call, shard_after, lookup_reply, reply_of, is_kept, is_kept_of_kind}
use Rattle.semantics.specs.History.{IsLegalHistory}
use Rattle.semantics.proofs.shared.LawLemmas.{updated_where-keeps, after_eviction-keeps, history_grows}
use Rattle.semantics.proofs.shared.HoldingLemmas.{found_cell, held_by_lookup, reply_finds, each_held_stays}

-- ---- maps with keys

-- present, or waiting
abbrev is_there : SequentialShard → ℕ → Bool
is_there shard cell =
    list_any (λ (one : PresentKey). one.cell == cell) shard.present || list_any (λ (one : RetiredCell). one.cell == cell) shard.retired

first_or : (a b : Bool) → a ≡ true → (a || b) ≡ true
first_or true b is = refl
first_or false b is = cc

pub second_or : (a b : Bool) → b ≡ true → (a || b) ≡ true
second_or true b is = refl
second_or false b is = is

other_stays : (cell gone one : ℕ) → (gone == cell) ≡ false → (one == cell) ≡ true → not (one == gone) ≡ true
other_stays cell gone one apart is = grind (arith, nat_tests)

-- a key that goes leaves its cell waiting
there_without_by : (shard : SequentialShard) (place cell : ℕ) (gone : PresentKey) (same : Bool) → (gone.cell == cell) ≡ same → is_there shard cell ≡ true →
    (list_any (λ (one : PresentKey). one.cell == cell) (filter (λ (one : PresentKey). not (one.cell == gone.cell)) shard.present) || (same || list_any (λ (one : RetiredCell). one.cell == cell) shard.retired)) ≡ true
there_without_by shard place cell gone true is there = second_or _ _ refl
there_without_by shard place cell gone false is there =
    rw (any-filter_same (λ (one : PresentKey). one.cell == cell) (λ (one : PresentKey). not (one.cell == gone.cell)) true (λ one this. other_stays cell gone.cell one.cell is this) shard.present) there

there_without_key : (shard : SequentialShard) (place cell : ℕ) (gone : PresentKey) → is_there shard cell ≡ true → is_there (without_key shard place gone) cell ≡ true
there_without_key shard place cell gone there = there_without_by shard place cell gone (gone.cell == cell) refl there

there_without : (shard : SequentialShard) (place cell : ℕ) (gone : Option PresentKey) → is_there shard cell ≡ true → is_there (without_found shard place gone) cell ≡ true
there_without shard place cell None there = there
there_without shard place cell (Some gone) there = there_without_key shard place cell gone there

there_with_value : (plan : ShardPlan) (history : List Entry) (shard : SequentialShard) (key value : List ℕ) (cell : ℕ) (found : Option ℕ) → is_there shard cell ≡ true →
    is_there (with_value plan history shard key value found) cell ≡ true
there_with_value plan history shard key value cell (Some at) there = there
there_with_value plan history shard key value cell None there =
    let evicted : is_there (after_eviction plan history shard) cell ≡ true =
    after_eviction-keeps (λ after. is_there after cell ≡ true) plan history shard (λ gone is. there_without shard (length history) cell gone there) there in
    one_more (length (after_eviction plan history shard).cells == cell) (list_any (λ (one : PresentKey). one.cell == cell) (after_eviction plan history shard).present) (list_any (λ (one : RetiredCell). one.cell == cell) (after_eviction plan history shard).retired) evicted
  where
    one_more : (new present retired : Bool) → (present || retired) ≡ true → ((new || present) || retired) ≡ true
    one_more true present retired held = refl
    one_more false present retired held = held

-- a retired cell that is not freed waits on
waits_on : (history : List Entry) (cell : ℕ) (retired : List RetiredCell) → AllByRecursion (λ (gone : RetiredCell). gone.cell ≡ cell → is_reclaimable history gone ≡ false) retired →
    list_any (λ (one : RetiredCell). one.cell == cell) retired ≡ true → list_any (λ (one : RetiredCell). one.cell == cell) (filter (λ (one : RetiredCell). not (is_reclaimable history one)) retired) ≡ true
waits_on history cell [] each found = found
waits_on history cell (gone ∷ rest) each found =
    by_tests (gone.cell == cell) (is_reclaimable history gone) refl refl found (waits_on history cell rest each.1)
  where
    by_tests : (this freed : Bool) → (gone.cell == cell) ≡ this → is_reclaimable history gone ≡ freed →
        (this || list_any (λ (one : RetiredCell). one.cell == cell) rest) ≡ true →
        (list_any (λ (one : RetiredCell). one.cell == cell) rest ≡ true → list_any (λ (one : RetiredCell). one.cell == cell) (filter (λ (one : RetiredCell). not (is_reclaimable history one)) rest) ≡ true) →
        list_any (λ (one : RetiredCell). one.cell == cell) (cond (not freed) (gone ∷ filter (λ (one : RetiredCell). not (is_reclaimable history one)) rest) (filter (λ (one : RetiredCell). not (is_reclaimable history one)) rest)) ≡ true
    by_tests true true is free held more = let same : gone.cell ≡ cell = grind (arith, nat_tests) in let kept : is_reclaimable history gone ≡ false = each.0 same in absurd cc
    by_tests true false is free held more = rw is refl
    by_tests false true is free held more = more held
    by_tests false false is free held more = rw is (more held)

there_after_reclaim : (history : List Entry) (shard : SequentialShard) (cell : ℕ) (present : Bool) → list_any (λ (one : PresentKey). one.cell == cell) shard.present ≡ present →
    AllByRecursion (λ (gone : RetiredCell). gone.cell ≡ cell → is_reclaimable history gone ≡ false) shard.retired → (present || list_any (λ (one : RetiredCell). one.cell == cell) shard.retired) ≡ true →
    (present || list_any (λ (one : RetiredCell). one.cell == cell) (filter (λ (one : RetiredCell). not (is_reclaimable history one)) shard.retired)) ≡ true
there_after_reclaim history shard cell true is each there = refl
there_after_reclaim history shard cell false is each there = waits_on history cell shard.retired each there

-- a call frees no cell that is not reclaimable
there_after_call : (plan : ShardPlan) (history : List Entry) (shard : SequentialShard) (call : Call) (cell : ℕ) →
    AllByRecursion (λ (gone : RetiredCell). gone.cell ≡ cell → is_reclaimable history gone ≡ false) shard.retired → is_there shard cell ≡ true →
    is_there (shard_after_call plan history shard call) cell ≡ true
there_after_call plan history shard (Enter number) cell each there = there
there_after_call plan history shard (Leave number) cell each there = there
there_after_call plan history shard (Lookup number key) cell each there = there
there_after_call plan history shard (Load held offset size) cell each there = there
there_after_call plan history shard (Store held offset size value) cell each there = there
there_after_call plan history shard (Atomic held offset size op value expected) cell each there = there
there_after_call plan history shard (Update number key value flags) cell each there =
    updated_where-keeps (λ after. is_there after cell ≡ true) (update_answer plan shard key flags) (with_value plan history shard key value (cell_of_key plan shard key)) shard
    (there_with_value plan history shard key value cell (cell_of_key plan shard key) there) there
there_after_call plan history shard (Delete number key) cell each there =
    updated_where-keeps (λ after. is_there after cell ≡ true) (delete_answer plan shard key) (without_found shard (length history) (present_key shard key)) shard
    (there_without shard (length history) cell (present_key shard key) there) there
there_after_call plan history shard (Reclaim number) cell each there =
    there_after_reclaim history shard cell (list_any (λ (one : PresentKey). one.cell == cell) shard.present) refl each there

-- a found key's cell is there
found_there : (present : List PresentKey) (retired : List RetiredCell) (key : List ℕ) (cell : ℕ) → cell_of_present present key ≡ Some cell →
    (list_any (λ (one : PresentKey). one.cell == cell) present || list_any (λ (one : RetiredCell). one.cell == cell) retired) ≡ true
found_there present retired key cell found = first_or _ _ (in_present present found)
  where
    in_present : (present : List PresentKey) → cell_of_present present key ≡ Some cell → list_any (λ (one : PresentKey). one.cell == cell) present ≡ true
    in_present [] found = absurd cc
    in_present (one ∷ rest) found = by_key (bytes_eq one.key key) found (in_present rest)
      where
        by_key : (this : Bool) → option_map (λ (found : PresentKey). found.cell) (cond this (Some one) (find (λ (other : PresentKey). bytes_eq other.key key) rest)) ≡ Some cell →
            (cell_of_present rest key ≡ Some cell → list_any (λ (one : PresentKey). one.cell == cell) rest ≡ true) → list_any (λ (one : PresentKey). one.cell == cell) (one ∷ rest) ≡ true
        by_key true is more = let same : one.cell ≡ cell = cc in let this : (one.cell == cell) ≡ true = grind (arith, nat_tests) in first_or _ _ this
        by_key false is more = second_or _ _ (more is)

-- ---- arrays: a cell for each index, from the opening on

index_within : (plan : ShardPlan) (index cell : ℕ) (within : Bool) → nat_lt index plan.definition.max_entries ≡ within → plan.definition.max_entries % plan.parts ≡ 0 → 0 < plan.parts →
    (if within then Some (index / plan.parts) else None) ≡ Some cell → cell < capacity plan
index_within plan index cell true is equal some found =
    let below : index < plan.definition.max_entries = grind (arith, nat_tests)
    in let whole : plan.definition.max_entries / plan.parts * plan.parts + plan.definition.max_entries % plan.parts ≡ plan.definition.max_entries = div-add-mod' plan.definition.max_entries plan.parts
    in let same : index / plan.parts ≡ cell = cc
    in let here : index / plan.parts < plan.definition.max_entries / plan.parts = div_below index plan.parts (plan.definition.max_entries / plan.parts) some (omega (arith, below, whole, equal))
    in omega (arith, same, here)
index_within plan index cell false is equal some found = absurd cc

pub opened_count : (kind : MapKind) (plan : ShardPlan) → kind ≡ Array → length (opening_cells kind plan) ≡ capacity plan
opened_count kind plan array = rw array (length-replicate (capacity plan) (replicate plan.definition.value_size 0))

-- an array's shard has a cell for each of its indices, whatever happened
cells_stay : (plan : ShardPlan) (history : List Entry) → length (opening_cells plan.definition.kind plan) ≤ length (shard_after plan history).cells
cells_stay plan history =
    let grown : length (shard_after plan []).cells ≤ length (shard_after plan (history ++ [])).cells = history_grows plan history [] in
    let same : history ++ [] ≡ history = append-nil history in
    let at : length (shard_after plan (history ++ [])).cells ≡ length (shard_after plan history).cells = ap (λ h. length (shard_after plan h).cells) same in
    omega (arith, grown, at)

-- ---- every kind

pub found_kept : (kind : MapKind) (plan : ShardPlan) (history : List Entry) (key : List ℕ) (cell : ℕ) → plan.definition.kind ≡ kind → plan.definition.max_entries % plan.parts ≡ 0 → 0 < plan.parts →
    cell_of_kind kind plan (shard_after plan history) key ≡ Some cell → is_kept_of_kind kind (shard_after plan history) cell ≡ true
found_kept Array plan history key cell is equal some found =
    let below : cell < capacity plan = index_within plan (number_of_bytes key) cell (nat_lt (number_of_bytes key) plan.definition.max_entries) refl equal some found
    in let opened : length (opening_cells plan.definition.kind plan) ≡ capacity plan = opened_count plan.definition.kind plan is
    in let stay : length (opening_cells plan.definition.kind plan) ≤ length (shard_after plan history).cells = cells_stay plan history
    in let within : cell < length (shard_after plan history).cells = omega (arith, below, opened, stay)
    in grind (arith, nat_tests)
found_kept Hash plan history key cell is equal some found = found_there (shard_after plan history).present (shard_after plan history).retired key cell found
found_kept LruHash plan history key cell is equal some found = found_there (shard_after plan history).present (shard_after plan history).retired key cell found

still_within : (cell before after : ℕ) → nat_lt cell before ≡ true → before ≤ after → nat_lt cell after ≡ true
still_within cell before after within more = grind (arith, nat_tests)

kept_on : (kind : MapKind) (plan : ShardPlan) (older : List Entry) (entry : Entry) (cell : ℕ) →
    AllByRecursion (λ (gone : RetiredCell). gone.cell ≡ cell → is_reclaimable older gone ≡ false) (shard_after plan older).retired → is_kept_of_kind kind (shard_after plan older) cell ≡ true →
    is_kept_of_kind kind (shard_after plan (entry ∷ older)) cell ≡ true
kept_on Array plan older entry cell each kept =
    still_within cell (length (shard_after plan older).cells) (length (shard_after plan (entry ∷ older)).cells) kept (history_grows plan (entry ∷ []) older)
kept_on Hash plan older entry cell each kept = there_after_call plan older (shard_after plan older) entry.call cell each kept
kept_on LruHash plan older entry cell each kept = there_after_call plan older (shard_after plan older) entry.call cell each kept

-- the worker's own entry gave it the cell, or it held it before
held_own : (call : Call) (reply : Reply) (cell : ℕ) (before : Bool) (P : Type 0) → held_by call reply cell before ≡ true → (before ≡ true → P) →
    ((number : ℕ) (key : List ℕ) → call ≡ Lookup number key → found_cell reply cell ≡ true → P) → P
held_own (Enter number) reply cell before P held earlier found = absurd cc
held_own (Leave number) reply cell before P held earlier found = absurd cc
held_own (Lookup number key) reply cell before P held earlier found = by_found (found_cell reply cell) refl (sym (held_by_lookup number key reply cell before) ∙ held)
  where
    by_found : (this : Bool) → found_cell reply cell ≡ this → (this || before) ≡ true → P
    by_found true is held = found number key refl is
    by_found false is held = earlier held
held_own (Load at offset size) reply cell before P held earlier found = earlier held
held_own (Store at offset size value) reply cell before P held earlier found = earlier held
held_own (Atomic at offset size op value expected) reply cell before P held earlier found = earlier held
held_own (Update number key value flags) reply cell before P held earlier found = earlier held
held_own (Delete number key) reply cell before P held earlier found = earlier held
held_own (Reclaim number) reply cell before P held earlier found = earlier held

held_now : (mine : Bool) (call : Call) (reply : Reply) (cell : ℕ) (before : Bool) (P : Type 0) → (if mine then held_by call reply cell before else before) ≡ true → (before ≡ true → P) →
    ((number : ℕ) (key : List ℕ) → call ≡ Lookup number key → found_cell reply cell ≡ true → P) → P
held_now true call reply cell before P held earlier found = held_own call reply cell before P held earlier found
held_now false call reply cell before P held earlier found = earlier held

pub held_is_kept : (plan : ShardPlan) (history : List Entry) (worker cell : ℕ) → plan.definition.max_entries % plan.parts ≡ 0 → 0 < plan.parts → worker < 8 → IsLegalHistory plan history →
    holds worker cell history ≡ true → is_kept plan (shard_after plan history) cell ≡ true
held_is_kept plan [] worker cell equal some few legal held = absurd cc
held_is_kept plan (entry ∷ older) worker cell equal some few legal held =
    held_now (is_worker worker entry.who) entry.call entry.reply cell (holds worker cell older) (is_kept plan (shard_after plan (entry ∷ older)) cell ≡ true) held
    (λ before. kept_on plan.definition.kind plan older entry cell (each_held_stays plan older worker cell few legal.1 before) (held_is_kept plan older worker cell equal some few legal.1 before))
    (λ number key is finds.
    let replied : entry.reply ≡ lookup_reply plan (cell_of_key plan (shard_after plan older) key) = legal.0.step.replied ∙ ap (λ call. reply_of plan older (shard_after plan older) call) is
    in let found : cell_of_key plan (shard_after plan older) key ≡ Some cell = reply_finds plan (cell_of_key plan (shard_after plan older) key) cell (subst (λ one. found_cell one cell ≡ true) replied finds)
    in let same : shard_after plan (entry ∷ older) ≡ shard_after plan older = ap (shard_after_call plan older (shard_after plan older)) is
    in subst (λ shard. is_kept plan shard cell ≡ true) (sym same) (found_kept plan.definition.kind plan older key cell refl equal some found))

pub held_is_kept_of_plan : (plan : ShardPlan) (history : List Entry) (worker cell : ℕ) → IsPlan plan → worker < 8 → IsLegalHistory plan history → holds worker cell history ≡ true → is_kept plan (shard_after plan history) cell ≡ true
held_is_kept_of_plan plan history worker cell is few legal held = held_is_kept plan history worker cell is.equal_parts is.limits.some_part few legal held
