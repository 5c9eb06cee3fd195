-- Which cells a shard keeps apart, and why a held cell is not freed.
use Rattle.std.proofs.Common.{◌≡◌, ℕ, zero, suc, ◌+◌, ◌<◌, ◌≤◌, Bool, true, false, cond, ◌||◌, not, nat_lt, List, [], ◌∷◌, ◌++◌, length, Option, Some, None, arith, refl, sym, ◌∙◌, ap, subst}
use Rattle.std.specs.Prelude.{◌==◌, All, filter, find, option_map, bytes_eq, if◌then◌else◌, is_some}
use Rattle.std.specs.List.{AllByRecursion, list_all}
use Rattle.std.proofs.lemmas.List.{length-set, length-append}
use Rattle.std.proofs.lemmas.List.Elements.{All-from_recursion}
use Rattle.std.proofs.lemmas.Bool.Decides.{nat_tests}
use Rattle.ebpf_decode.specs.declared.map.MapKind.{MapKind}
use Rattle.ebpf_decode.specs.declared.map.MapKind.TheVariants.{Array, Hash, LruHash}
use Rattle.semantics.specs.declared.call.Caller.{Caller}
use Rattle.semantics.specs.declared.call.Caller.TheVariants.{Worker, Controller, Reclaimer}
use Rattle.semantics.specs.declared.call.Entry.{Entry}
use Rattle.semantics.specs.declared.call.Reply.{Reply}
use Rattle.semantics.specs.declared.call.Reply.TheVariants.{Cell}
use Rattle.semantics.specs.declared.call.Call.{Call}
use Rattle.semantics.specs.declared.call.Call.TheVariants.{Enter, Leave, Lookup, Load, Store, Atomic, Update, Delete, Reclaim}
use Rattle.semantics.specs.declared.plan.PresentKey.{PresentKey}
use Rattle.semantics.specs.declared.plan.RetiredCell.{RetiredCell}
use Rattle.semantics.specs.declared.linux.UpdateFlags.{UpdateFlags}
use Rattle.semantics.specs.declared.linux.UpdateFlags.TheVariants.{Any, NoExist, Exist}
use Rattle.semantics.specs.Linux.{update_flags_of}
use Rattle.semantics.specs.ShardPlan.{ShardPlan}
use Rattle.semantics.specs.Reclamation.{is_worker, entered_by, entered_at, held_by, holds, worker_numbers, began_after, is_reclaimable, Holds, IsReclaimable}
use Rattle.semantics.specs.LeastRecentlyUsed.{is_least_recently_used}
use Rattle.semantics.specs.SequentialShard.{SequentialShard, without_key, without_found, after_eviction, with_new_key, with_value, with_cell, updated_where, shard_after_call, shard_after, cell_of_key, cell_of_kind, update_answer, update_answer_by, delete_answer, delete_answer_of_kind, present_key, lookup_reply, reply_of}
use Rattle.semantics.specs.History.{shard_of_call, is_inside_worker, is_own_key, meets_part, IsLegalStep, IsLegalHistory}
use Rattle.semantics.proofs.shared.ConditionLemmas.{first_true, second_true}
use Rattle.semantics.proofs.shared.LawLemmas.{updated_where-keeps, after_eviction-keeps}

-- ---- lists

pub each_weaker : {A : Type 0} (P Q : A → Type 0) → ((x : A) → P x → Q x) → (xs : List A) → AllByRecursion P xs → AllByRecursion Q xs
each_weaker P Q weaker [] each = tt
each_weaker P Q weaker (x ∷ xs) each = (weaker x each.0, each_weaker P Q weaker xs each.1)

pub each_filter : {A : Type 0} (P : A → Type 0) (test : A → Bool) → (xs : List A) → AllByRecursion P xs → AllByRecursion (λ x. P x × (test x ≡ true)) (filter test xs)
each_filter P test [] each = tt
each_filter P test (x ∷ xs) each = by_test (test x) refl (each_filter P test xs each.1)
  where
    by_test : (t : Bool) → test x ≡ t → AllByRecursion (λ x. P x × (test x ≡ true)) (filter test xs) → AllByRecursion (λ x. P x × (test x ≡ true)) (cond t (x ∷ filter test xs) (filter test xs))
    by_test true is rest = ((each.0, is), rest)
    by_test false is rest = rest

pub each_find : {A : Type 0} (P : A → Type 0) (test : A → Bool) → (xs : List A) (found : A) → AllByRecursion P xs → find test xs ≡ Some found → P found
each_find P test [] found each is = cc
each_find P test (x ∷ xs) found each is = by_test (test x) is (each_find P test xs found each.1)
  where
    by_test : (t : Bool) → cond t (Some x) (find test xs) ≡ Some found → (find test xs ≡ Some found → P found) → P found
    by_test true is rest = let same : x ≡ found = cc in subst P same each.0
    by_test false is rest = rest is

-- ---- a sound state: each cell is below the next id, and no present key has a retired cell

pub record IsSound (shard : SequentialShard) : Type 0 where
  pub present : AllByRecursion (λ (one : PresentKey). one.cell < length shard.cells) shard.present
  pub retired : AllByRecursion (λ (one : RetiredCell). one.cell < length shard.cells) shard.retired
  pub apart : AllByRecursion (λ (one : PresentKey). AllByRecursion (λ (gone : RetiredCell). one.cell ≡ gone.cell → ⊥) shard.retired) shard.present

sound_with_cell : (shard : SequentialShard) (cell : ℕ) (bytes : List ℕ) → IsSound shard → IsSound (with_cell shard cell bytes)
sound_with_cell shard cell bytes sound = record {
  present = rw (length-set shard.cells cell bytes) sound.present;
  retired = rw (length-set shard.cells cell bytes) sound.retired;
  apart = sound.apart;
}

differs : (a b : ℕ) → not (a == b) ≡ true → a ≡ b → ⊥
differs a b test same = grind (arith, nat_tests)

sound_without_key : (shard : SequentialShard) (place : ℕ) (gone : PresentKey) → gone.cell < length shard.cells → IsSound shard → IsSound (without_key shard place gone)
sound_without_key shard place gone below sound = record {
  present = each_weaker (λ (one : PresentKey). (one.cell < length shard.cells) × (not (one.cell == gone.cell) ≡ true)) (λ (one : PresentKey). one.cell < length shard.cells) (λ one held. held.0) _ (each_filter _ (λ (one : PresentKey). not (one.cell == gone.cell)) shard.present sound.present);
  retired = (below, sound.retired);
  apart = each_weaker (λ (one : PresentKey). AllByRecursion (λ (old : RetiredCell). one.cell ≡ old.cell → ⊥) shard.retired × (not (one.cell == gone.cell) ≡ true)) (λ (one : PresentKey). (one.cell ≡ gone.cell → ⊥) × AllByRecursion (λ (old : RetiredCell). one.cell ≡ old.cell → ⊥) shard.retired) (λ one held. (differs one.cell gone.cell held.1, held.0)) _ (each_filter _ (λ (one : PresentKey). not (one.cell == gone.cell)) shard.present sound.apart);
}

sound_with_new_key : (shard : SequentialShard) (key value : List ℕ) → IsSound shard → IsSound (with_new_key shard key value)
sound_with_new_key shard key value sound =
    let more : length (shard.cells ++ value ∷ []) ≡ length shard.cells + 1 = length-append shard.cells (value ∷ []) in
    record {
      present = (omega (arith, more), each_weaker (λ (one : PresentKey). one.cell < length shard.cells) (λ (one : PresentKey). one.cell < length (shard.cells ++ value ∷ [])) (λ one below. omega (arith, more, below)) shard.present sound.present);
      retired = each_weaker (λ (one : RetiredCell). one.cell < length shard.cells) (λ (one : RetiredCell). one.cell < length (shard.cells ++ value ∷ [])) (λ one below. omega (arith, more, below)) shard.retired sound.retired;
      apart = (each_weaker (λ (one : RetiredCell). one.cell < length shard.cells) (λ (one : RetiredCell). length shard.cells ≡ one.cell → ⊥) (λ one below same. omega (arith, below, same)) shard.retired sound.retired, sound.apart);
    }

sound_without_found : (shard : SequentialShard) (place : ℕ) (test : PresentKey → Bool) (gone : Option PresentKey) → gone ≡ find test shard.present → IsSound shard → IsSound (without_found shard place gone)
sound_without_found shard place test None is sound = sound
sound_without_found shard place test (Some gone) is sound =
    sound_without_key shard place gone (each_find (λ (one : PresentKey). one.cell < length shard.cells) test shard.present gone sound.present (sym is)) sound

sound_with_value : (plan : ShardPlan) (history : List Entry) (shard : SequentialShard) (key value : List ℕ) (cell : Option ℕ) → IsSound shard → IsSound (with_value plan history shard key value cell)
sound_with_value plan history shard key value (Some cell) sound = sound_with_cell shard cell value sound
sound_with_value plan history shard key value None sound =
    sound_with_new_key (after_eviction plan history shard) key value
    (after_eviction-keeps IsSound plan history shard
    (λ gone is. sound_without_found shard (length history) (is_least_recently_used history shard.present) gone is sound) sound)

each_first : {A : Type 0} (P : A → Type 0) (test : A → Bool) → (xs : List A) → AllByRecursion P xs → AllByRecursion P (filter test xs)
each_first P test xs each = each_weaker (λ x. P x × (test x ≡ true)) P (λ x held. held.0) (filter test xs) (each_filter P test xs each)

pub sound_after_call : (plan : ShardPlan) (history : List Entry) (shard : SequentialShard) (call : Call) → IsSound shard → IsSound (shard_after_call plan history shard call)
sound_after_call plan history shard (Enter number) sound = sound
sound_after_call plan history shard (Leave number) sound = sound
sound_after_call plan history shard (Lookup number key) sound = sound
sound_after_call plan history shard (Load cell offset size) sound = sound
sound_after_call plan history shard (Store cell offset size value) sound = sound_with_cell shard cell.id _ sound
sound_after_call plan history shard (Atomic cell offset size op value expected) sound = sound_with_cell shard cell.id _ sound
sound_after_call plan history shard (Update number key value flags) sound =
    updated_where-keeps IsSound (update_answer plan shard key flags) (with_value plan history shard key value (cell_of_key plan shard key)) shard
    (sound_with_value plan history shard key value (cell_of_key plan shard key) sound) sound
sound_after_call plan history shard (Delete number key) sound =
    updated_where-keeps IsSound (delete_answer plan shard key) (without_found shard (length history) (present_key shard key)) shard
    (sound_without_found shard (length history) (λ (one : PresentKey). bytes_eq one.key key) (present_key shard key) refl sound) sound
sound_after_call plan history shard (Reclaim number) sound = record {
  present = sound.present;
  retired = each_first _ (λ (one : RetiredCell). not (is_reclaimable history one)) shard.retired sound.retired;
  apart = each_weaker (λ (one : PresentKey). AllByRecursion (λ (gone : RetiredCell). one.cell ≡ gone.cell → ⊥) shard.retired) (λ (one : PresentKey). AllByRecursion (λ (gone : RetiredCell). one.cell ≡ gone.cell → ⊥) (filter (λ (gone : RetiredCell). not (is_reclaimable history gone)) shard.retired)) (λ one apart. each_first _ (λ (gone : RetiredCell). not (is_reclaimable history gone)) shard.retired apart) shard.present sound.apart;
}

pub sound_after : (plan : ShardPlan) (history : List Entry) → IsSound (shard_after plan history)
sound_after plan [] = record { present = tt; retired = tt; apart = tt }
sound_after plan (entry ∷ older) = sound_after_call plan older (shard_after plan older) entry.call (sound_after plan older)

-- ---- an array retires nothing

no_more_retired_at_array : (plan : ShardPlan) (history : List Entry) (shard : SequentialShard) (key value : List ℕ) (flags : Option UpdateFlags) (cell : Option ℕ) → (updated_where (update_answer_by Array plan shard flags cell) (with_value plan history shard key value cell) shard).retired ≡ shard.retired
no_more_retired_at_array plan history shard key value None cell = refl
no_more_retired_at_array plan history shard key value (Some flags) None = refl
no_more_retired_at_array plan history shard key value (Some Any) (Some cell) = refl
no_more_retired_at_array plan history shard key value (Some NoExist) (Some cell) = refl
no_more_retired_at_array plan history shard key value (Some Exist) (Some cell) = refl

array_call : (plan : ShardPlan) (history : List Entry) (shard : SequentialShard) (call : Call) → plan.definition.kind ≡ Array → shard.retired ≡ [] → (shard_after_call plan history shard call).retired ≡ []
array_call plan history shard (Enter number) kind none = none
array_call plan history shard (Leave number) kind none = none
array_call plan history shard (Lookup number key) kind none = none
array_call plan history shard (Load cell offset size) kind none = none
array_call plan history shard (Store cell offset size value) kind none = none
array_call plan history shard (Atomic cell offset size op value expected) kind none = none
array_call plan history shard (Update number key value flags) kind none =
    let at_kind : MapKind → Type 0 = λ k. (updated_where (update_answer_by k plan shard (update_flags_of flags) (cell_of_key plan shard key)) (with_value plan history shard key value (cell_of_key plan shard key)) shard).retired ≡ shard.retired in
    subst at_kind (sym kind) (no_more_retired_at_array plan history shard key value (update_flags_of flags) (cell_of_key plan shard key)) ∙ none
array_call plan history shard (Delete number key) kind none =
    let at_kind : MapKind → Type 0 = λ k. (updated_where (delete_answer_of_kind k (cell_of_key plan shard key)) (without_found shard (length history) (present_key shard key)) shard).retired ≡ shard.retired in
    subst at_kind (sym kind) refl ∙ none
array_call plan history shard (Reclaim number) kind none = ap (λ gone. filter (λ (one : RetiredCell). not (is_reclaimable history one)) gone) none

pub array_after : (plan : ShardPlan) (history : List Entry) → plan.definition.kind ≡ Array → (shard_after plan history).retired ≡ []
array_after plan [] kind = refl
array_after plan (entry ∷ older) kind = array_call plan older (shard_after plan older) entry.call kind (array_after plan older kind)

-- ---- a cell that is found was not retired

abbrev pub NotRetired : ℕ → List RetiredCell → Type 0
NotRetired cell retired = AllByRecursion (λ (gone : RetiredCell). gone.cell ≡ cell → ⊥) retired

found_present : (shard : SequentialShard) (key : List ℕ) (cell : ℕ) (found : Option PresentKey) → find (λ (one : PresentKey). bytes_eq one.key key) shard.present ≡ found → IsSound shard → option_map (λ (one : PresentKey). one.cell) found ≡ Some cell → NotRetired cell shard.retired
found_present shard key cell None is sound found = cc
found_present shard key cell (Some one) is sound found =
    let same : one.cell ≡ cell = cc in
    let apart : AllByRecursion (λ (gone : RetiredCell). one.cell ≡ gone.cell → ⊥) shard.retired =
    each_find (λ (present : PresentKey). AllByRecursion (λ (gone : RetiredCell). present.cell ≡ gone.cell → ⊥) shard.retired) (λ (present : PresentKey). bytes_eq present.key key) shard.present one sound.apart is in
    each_weaker (λ (gone : RetiredCell). one.cell ≡ gone.cell → ⊥) (λ (gone : RetiredCell). gone.cell ≡ cell → ⊥) (λ gone other retired. other (same ∙ sym retired)) shard.retired apart

found_at_kind : (kind : MapKind) (plan : ShardPlan) (shard : SequentialShard) (key : List ℕ) (cell : ℕ) → IsSound shard → (kind ≡ Array → shard.retired ≡ []) → cell_of_kind kind plan shard key ≡ Some cell → NotRetired cell shard.retired
found_at_kind Array plan shard key cell sound none found = rw (none refl) tt
found_at_kind Hash plan shard key cell sound none found = found_present shard key cell (find (λ (one : PresentKey). bytes_eq one.key key) shard.present) refl sound found
found_at_kind LruHash plan shard key cell sound none found = found_present shard key cell (find (λ (one : PresentKey). bytes_eq one.key key) shard.present) refl sound found

-- ---- what is retired from now on is retired after a section that began before

abbrev pub IsLate : ℕ → ℕ → List RetiredCell → Type 0
IsLate cell entered retired = AllByRecursion (λ (gone : RetiredCell). gone.cell ≡ cell → entered ≤ gone.since) retired

late_without : (shard : SequentialShard) (place cell entered : ℕ) (gone : Option PresentKey) → entered ≤ place → IsLate cell entered shard.retired → IsLate cell entered (without_found shard place gone).retired
late_without shard place cell entered None before late = late
late_without shard place cell entered (Some gone) before late = ((λ same. before), late)

late_with_value : (plan : ShardPlan) (history : List Entry) (shard : SequentialShard) (key value : List ℕ) (cell entered : ℕ) (found : Option ℕ) → entered ≤ length history → IsLate cell entered shard.retired → IsLate cell entered (with_value plan history shard key value found).retired
late_with_value plan history shard key value cell entered (Some at) before late = late
late_with_value plan history shard key value cell entered None before late =
    after_eviction-keeps (λ after. IsLate cell entered after.retired) plan history shard (λ gone is. late_without shard (length history) cell entered gone before late) late

late_after_call : (plan : ShardPlan) (history : List Entry) (shard : SequentialShard) (call : Call) (cell entered : ℕ) → entered ≤ length history → IsLate cell entered shard.retired → IsLate cell entered (shard_after_call plan history shard call).retired
late_after_call plan history shard (Enter number) cell entered before late = late
late_after_call plan history shard (Leave number) cell entered before late = late
late_after_call plan history shard (Lookup number key) cell entered before late = late
late_after_call plan history shard (Load held offset size) cell entered before late = late
late_after_call plan history shard (Store held offset size value) cell entered before late = late
late_after_call plan history shard (Atomic held offset size op value expected) cell entered before late = late
late_after_call plan history shard (Update number key value flags) cell entered before late =
    updated_where-keeps (λ after. IsLate cell entered after.retired) (update_answer plan shard key flags) (with_value plan history shard key value (cell_of_key plan shard key)) shard
    (late_with_value plan history shard key value cell entered (cell_of_key plan shard key) before late) late
late_after_call plan history shard (Delete number key) cell entered before late =
    updated_where-keeps (λ after. IsLate cell entered after.retired) (delete_answer plan shard key) (without_found shard (length history) (present_key shard key)) shard
    (late_without shard (length history) cell entered (present_key shard key) before late) late
late_after_call plan history shard (Reclaim number) cell entered before late = each_first _ (λ (gone : RetiredCell). not (is_reclaimable history gone)) shard.retired late

-- ---- where a section began

entered_by_before : (call : Call) (place at : ℕ) (before : Option ℕ) → (before ≡ Some at → at < place) → entered_by call place before ≡ Some at → at < suc place
entered_by_before (Enter number) place at before earlier is = let same : place ≡ at = cc in omega (arith, same)
entered_by_before (Leave number) place at before earlier is = cc
entered_by_before call place at before earlier is = omega (arith, earlier is)

entered_before : (worker at : ℕ) (history : List Entry) → entered_at worker history ≡ Some at → at < length history
entered_before worker at [] is = cc
entered_before worker at (entry ∷ older) is = by_own (is_worker worker entry.who) is (entered_before worker at older)
  where
    by_own : (own : Bool) → (if own then entered_by entry.call (length older) (entered_at worker older) else entered_at worker older) ≡ Some at → (entered_at worker older ≡ Some at → at < length older) → at < length (entry ∷ older)
    by_own true found earlier = entered_by_before entry.call (length older) at (entered_at worker older) earlier found
    by_own false found earlier = omega (arith, earlier found)

pub record IsGuarded (worker cell : ℕ) (history : List Entry) (retired : List RetiredCell) : Type 0 where
  pub entered : ℕ
  pub is : entered_at worker history ≡ Some entered
  pub late : IsLate cell entered retired

-- what the worker's own call leaves, by the call
pub record IsGuardedBy (found : Option ℕ) (cell place : ℕ) (retired : List RetiredCell) : Type 0 where
  pub entered : ℕ
  pub is : found ≡ Some entered
  pub late : IsLate cell entered retired

-- the reply is the cell of this id
abbrev pub found_cell : Reply → ℕ → Bool
found_cell (Cell cell) id = cell.id == id
found_cell reply id = false

-- after a Lookup its worker holds the cell that it found, and what it held before
pub held_by_lookup : (number : ℕ) (key : List ℕ) (reply : Reply) (cell : ℕ) (before : Bool) → held_by (Lookup number key) reply cell before ≡ (found_cell reply cell || before)
held_by_lookup number key (Cell found) cell before = refl
held_by_lookup number key reply cell before = refl

pub reply_finds : (plan : ShardPlan) (found : Option ℕ) (cell : ℕ) → found_cell (lookup_reply plan found) cell ≡ true → found ≡ Some cell
reply_finds plan None cell finds = cc
reply_finds plan (Some id) cell finds = let same : id ≡ cell = grind (arith, nat_tests) in ap Some same

inside_at : (found : Option ℕ) → is_some found ≡ true → (at : ℕ) × (found ≡ Some at)
inside_at None is = cc
inside_at (Some at) is = (at, refl)

inside_met : (plan : ShardPlan) (history : List Entry) (who : Caller) (worker : ℕ) → is_worker worker who ≡ true → is_inside_worker plan history who ≡ true → is_some (entered_at worker history) ≡ true
inside_met plan history (Worker number) worker own met =
    let same : number ≡ worker = grind (arith, nat_tests) in
    let at_worker : ℕ → Type 0 = λ one. is_some (entered_at one history) ≡ true in
    subst at_worker same (second_true (nat_lt number plan.workers) (is_some (entered_at number history)) met)
inside_met plan history Controller worker own met = cc
inside_met plan history Reclaimer worker own met = cc

-- a Lookup of the worker's own that finds the cell, or an earlier one
own_lookup : (plan : ShardPlan) (history : List Entry) (shard : SequentialShard) (who : Caller) (number : ℕ) (key : List ℕ) (worker cell : ℕ) → IsSound shard → (plan.definition.kind ≡ Array → shard.retired ≡ []) → is_worker worker who ≡ true → is_inside_worker plan history who ≡ true → (held : Bool) → (held ≡ true → IsGuarded worker cell history shard.retired) → (finds : Bool) → found_cell (lookup_reply plan (cell_of_key plan shard key)) cell ≡ finds → (finds || held) ≡ true → IsGuardedBy (entered_at worker history) cell (length history) shard.retired
own_lookup plan history shard who number key worker cell sound none own inside held before true is holds =
    let entry = inside_at (entered_at worker history) (inside_met plan history who worker own inside) in
    let absent : NotRetired cell shard.retired = found_at_kind plan.definition.kind plan shard key cell sound none (reply_finds plan (cell_of_key plan shard key) cell is) in
    record {
      entered = entry.0;
      is = entry.1;
      late = each_weaker (λ (gone : RetiredCell). gone.cell ≡ cell → ⊥) (λ (gone : RetiredCell). gone.cell ≡ cell → entry.0 ≤ gone.since) (λ gone other same. absurd (other same)) shard.retired absent;
    }
own_lookup plan history shard who number key worker cell sound none own inside held before false is holds =
    let guarded = before holds in
    record { entered = guarded.entered; is = guarded.is; late = guarded.late }

-- another call of the worker's own, which neither begins nor ends a section
own_other : (plan : ShardPlan) (history : List Entry) (shard : SequentialShard) (call : Call) (worker cell : ℕ) → IsGuarded worker cell history shard.retired → IsGuardedBy (entered_at worker history) cell (length history) (shard_after_call plan history shard call).retired
own_other plan history shard call worker cell guarded = record {
  entered = guarded.entered;
  is = guarded.is;
  late = late_after_call plan history shard call cell guarded.entered (let earlier : guarded.entered < length history = entered_before worker guarded.entered history guarded.is in omega (arith, earlier)) guarded.late;
}

own_call : (plan : ShardPlan) (history : List Entry) (shard : SequentialShard) (who : Caller) (call : Call) (reply : Reply) (worker cell : ℕ) → IsSound shard → (plan.definition.kind ≡ Array → shard.retired ≡ []) → is_worker worker who ≡ true → meets_part plan history who call ≡ true → reply ≡ reply_of plan history shard call → (held : Bool) → (held ≡ true → IsGuarded worker cell history shard.retired) → held_by call reply cell held ≡ true → IsGuardedBy (entered_by call (length history) (entered_at worker history)) cell (length history) (shard_after_call plan history shard call).retired
own_call plan history shard who (Enter number) reply worker cell sound none own met replied held before holds = cc
own_call plan history shard who (Leave number) reply worker cell sound none own met replied held before holds = cc
own_call plan history shard who (Lookup number key) reply worker cell sound none own met replied held before holds =
    own_lookup plan history shard who number key worker cell sound none own (first_true (is_inside_worker plan history who) (is_own_key plan key) met) held before
    (found_cell (lookup_reply plan (cell_of_key plan shard key)) cell) refl
    (let at_reply : Reply → Type 0 = λ one. (found_cell one cell || held) ≡ true in subst at_reply replied (sym (held_by_lookup number key reply cell held) ∙ holds))
own_call plan history shard who call reply worker cell sound none own met replied held before holds = own_other plan history shard call worker cell (before holds)

guarded_cons : (plan : ShardPlan) (worker cell : ℕ) (entry : Entry) (older : List Entry) → IsLegalStep plan older entry → (holds worker cell older ≡ true → IsGuarded worker cell older (shard_after plan older).retired) → (own : Bool) → is_worker worker entry.who ≡ own → (if own then held_by entry.call entry.reply cell (holds worker cell older) else holds worker cell older) ≡ true → IsGuardedBy (if own then entered_by entry.call (length older) (entered_at worker older) else entered_at worker older) cell (length older) (shard_after plan (entry ∷ older)).retired
guarded_cons plan worker cell entry older legal before true is now_held =
    own_call plan older (shard_after plan older) entry.who entry.call entry.reply worker cell (sound_after plan older) (array_after plan older) is
    (second_true (shard_of_call entry.call == plan.number) (meets_part plan older entry.who entry.call) legal.step.met) legal.step.replied (holds worker cell older) before now_held
guarded_cons plan worker cell entry older legal before false is now_held = own_other plan older (shard_after plan older) entry.call worker cell (before now_held)

pub guarded : (plan : ShardPlan) (worker cell : ℕ) (history : List Entry) → IsLegalHistory plan history → holds worker cell history ≡ true → IsGuarded worker cell history (shard_after plan history).retired
guarded plan worker cell [] legal holds = cc
guarded plan worker cell (entry ∷ older) legal holds =
    let by = guarded_cons plan worker cell entry older legal.0 (guarded plan worker cell older legal.1) (is_worker worker entry.who) refl holds in
    record { entered = by.entered; is = by.is; late = by.late }

-- ---- so it is not freed

fails_at : (test : ℕ → Bool) (worker : ℕ) → worker < 8 → test worker ≡ false → list_all test worker_numbers ≡ false
fails_at test zero below fails = grind (arith, fails)
fails_at test (suc zero) below fails = grind (arith, fails)
fails_at test (suc (suc zero)) below fails = grind (arith, fails)
fails_at test (suc (suc (suc zero))) below fails = grind (arith, fails)
fails_at test (suc (suc (suc (suc zero)))) below fails = grind (arith, fails)
fails_at test (suc (suc (suc (suc (suc zero))))) below fails = grind (arith, fails)
fails_at test (suc (suc (suc (suc (suc (suc zero)))))) below fails = grind (arith, fails)
fails_at test (suc (suc (suc (suc (suc (suc (suc zero))))))) below fails = grind (arith, fails)
fails_at test (suc (suc (suc (suc (suc (suc (suc (suc more)))))))) below fails = absurd (omega arith)

began_no_later : (since entered : ℕ) (found : Option ℕ) → found ≡ Some entered → entered ≤ since → began_after since found ≡ false
began_no_later since entered None is late = cc
began_no_later since entered (Some at) is late = let same : at ≡ entered = cc in grind (arith, nat_tests)

pub each_held_stays : (plan : ShardPlan) (history : List Entry) (worker cell : ℕ) → worker < 8 → IsLegalHistory plan history → holds worker cell history ≡ true → AllByRecursion (λ (gone : RetiredCell). gone.cell ≡ cell → is_reclaimable history gone ≡ false) (shard_after plan history).retired
each_held_stays plan history worker cell below legal holds =
    let by = guarded plan worker cell history legal holds in
    each_weaker (λ (gone : RetiredCell). gone.cell ≡ cell → by.entered ≤ gone.since) (λ (gone : RetiredCell). gone.cell ≡ cell → is_reclaimable history gone ≡ false) (λ gone late same.
    fails_at (λ one. began_after gone.since (entered_at one history)) worker below
    (began_no_later gone.since by.entered (entered_at worker history) by.is (late same))) (shard_after plan history).retired by.late

-- the law's words: such a cell is not reclaimable
pub held_stays : (plan : ShardPlan) (history : List Entry) (worker cell : ℕ) → worker < 8 → IsLegalHistory plan history → Holds worker cell history →
    All (λ (gone : RetiredCell). gone.cell ≡ cell → ¬ IsReclaimable history gone) (shard_after plan history).retired
held_stays plan history worker cell below legal holds =
    All-from_recursion (λ (gone : RetiredCell). gone.cell ≡ cell → ¬ IsReclaimable history gone) (shard_after plan history).retired
    (each_weaker (λ (gone : RetiredCell). gone.cell ≡ cell → is_reclaimable history gone ≡ false)
    (λ (gone : RetiredCell). gone.cell ≡ cell → ¬ IsReclaimable history gone)
    (λ gone kept same yes. let no : is_reclaimable history gone ≡ false = kept same in cc)
    (shard_after plan history).retired (each_held_stays plan history worker cell below legal holds))
