-- A worker holds kept cells alone, and kept cells are few.
use Rattle.std.proofs.Common.{◌≡◌, ◌≢◌, ℕ, zero, suc, ◌+◌, ◌*◌, ◌==◌, ◌<◌, ◌≤◌, Bool, true, false, true≢false, not, ◌&&◌, ◌||◌, List, [], ◌∷◌, ◌++◌, length, map, length-append, eq-eqb, ne_eqb, refl, sym, ap, ◌∙◌, inl, inr, arith}
use Rattle.std.specs.Prelude.{Option, Some, None, is_some, if◌then◌else◌}
use Rattle.std.specs.List.{list_any}
use Rattle.std.proofs.lemmas.Bool.Decides.{eqb_tells, nat_tests}
use Rattle.std.proofs.lemmas.List.{length-map}
use Rattle.ebpf_decode.specs.declared.map.MapKind.{MapKind}
use Rattle.ebpf_decode.specs.declared.map.MapKind.TheVariants.{Array, Hash, LruHash}
use Rattle.semantics.specs.declared.call.Entry.{Entry}
use Rattle.semantics.specs.declared.call.Call.{Call}
use Rattle.semantics.specs.declared.call.Call.TheVariants.{Enter, Leave, Lookup, Load, Store, Atomic, Update, Delete, Reclaim}
use Rattle.semantics.specs.declared.linux.UpdateFlags.{UpdateFlags}
use Rattle.semantics.specs.declared.linux.UpdateFlags.TheVariants.{Any, NoExist, Exist}
use Rattle.semantics.specs.Linux.{update_flags_of}
use Rattle.semantics.specs.LeastRecentlyUsed.{is_zero}
use Rattle.semantics.specs.declared.plan.PresentKey.{PresentKey}
use Rattle.semantics.specs.declared.plan.RetiredCell.{RetiredCell}
use Rattle.semantics.specs.declared.plan.ShardPlan.{ShardPlan}
use Rattle.semantics.specs.ShardPlan.{capacity}
use Rattle.semantics.specs.PlanLimits.{IsPlan}
use Rattle.semantics.specs.IdLaws.{creates, creations}
use Rattle.semantics.specs.SequentialShard.{SequentialShard, shard_after, is_kept_of_kind, update_answer_by, cell_of_key}
use Rattle.semantics.specs.History.{IsLegalHistory}
use Rattle.semantics.proofs.shared.IdLemmas.{ids_count}
use Rattle.semantics.proofs.shared.KeptLemmas.{held_is_kept_of_plan, opened_count}
use Rattle.map_cells.specs.CellTable.{CellTable}
use Rattle.shard_core.specs.ShardFields.{HasAllPlaces}
use Rattle.shard_core.specs.FewHeld.{is_among, AreOnce, FewAreHeld}

-- ---- numbers that are there once are no more than the list that has them all

abbrev without : ℕ → List ℕ → List ℕ
without id [] = []
without id (x ∷ xs) = if x == id then without id xs else (x ∷ without id xs)

never_more : (id : ℕ) (xs : List ℕ) → length (without id xs) ≤ length xs
never_more id [] = omega arith
never_more id (x ∷ xs) = elim (eqb_tells x id) [
  | inl same ↦ (let rest = never_more id xs in rw same.0 (omega (arith, rest)))
  | inr apart ↦ (let rest = never_more id xs in rw apart.0 (omega (arith, rest)))
]

fewer : (id : ℕ) (xs : List ℕ) → is_among id xs ≡ true → length (without id xs) + 1 ≤ length xs
fewer id [] among = absurd cc
fewer id (x ∷ xs) among = elim (eqb_tells x id) [
  | inl same ↦ (let rest = never_more id xs in rw same.0 (omega (arith, rest)))
  | inr apart ↦ (let later = rw apart.0 at among in let rest = fewer id xs later in rw apart.0 (omega (arith, rest)))
]

still : (other id : ℕ) (xs : List ℕ) → other ≢ id → is_among other xs ≡ true → is_among other (without id xs) ≡ true
still other id [] differs among = absurd cc
still other id (x ∷ xs) differs among = elim (eqb_tells x other) [
  | inl here ↦ (let apart : (x == id) ≡ false = ne_eqb x id (λ same. differs (sym here.1 ∙ same)) in rw (apart, here.0) refl)
  | inr past ↦ (let later = rw past.0 at among in elim (eqb_tells x id) [
    | inl same ↦ rw same.0 (still other id xs differs later)
    | inr apart ↦ rw (apart.0, past.0) (still other id xs differs later)
  ])
]

or_true : (a : Bool) → (a || true) ≡ true
or_true true = refl
or_true false = refl

few_of : (ids xs : List ℕ) → AreOnce ids → ((cell : ℕ) → is_among cell ids ≡ true → is_among cell xs ≡ true) → length ids ≤ length xs
few_of [] xs once all = omega arith
few_of (id ∷ ids) xs once all =
    let gone = fewer id xs (all id (ap (λ (same : Bool). same || is_among id ids) (eq-eqb id id refl))) in
    let rest = few_of ids (without id xs) once.1
    (λ cell among. still cell id xs (λ same. true≢false (sym among ∙ ap (λ (n : ℕ). is_among n ids) same ∙ once.0))
    (all cell (ap (λ (later : Bool). (id == cell) || later) among ∙ or_true (id == cell)))) in
    omega (arith, gone, rest)

-- ---- the cells that are kept, as a list

abbrev below : ℕ → List ℕ
below zero = []
below (suc n) = n ∷ below n

length_below : (n : ℕ) → length (below n) ≡ n
length_below zero = refl
length_below (suc n) = ap suc (length_below n)

among_below : (n cell : ℕ) → cell < n → is_among cell (below n) ≡ true
among_below zero cell lower = absurd (omega (arith, lower))
among_below (suc n) cell lower = elim (eqb_tells n cell) [
  | inl same ↦ rw same.0 refl
  | inr apart ↦ rw apart.0 (among_below n cell (omega (arith, lower, apart.1)))
]

or_or : (a b c : Bool) → (a || (b || c)) ≡ ((a || b) || c)
or_or true b c = refl
or_or false b c = refl

abbrev retired_ids : List RetiredCell → List ℕ
retired_ids retired = map (λ (one : RetiredCell). one.cell) retired

abbrev present_ids : List PresentKey → List ℕ
present_ids present = map (λ (one : PresentKey). one.cell) present

among_retired : (cell : ℕ) (retired : List RetiredCell) → is_among cell (retired_ids retired) ≡ list_any (λ (one : RetiredCell). one.cell == cell) retired
among_retired cell [] = refl
among_retired cell (one ∷ retired) = ap (λ (later : Bool). (one.cell == cell) || later) (among_retired cell retired)

among_either : (cell : ℕ) (present : List PresentKey) (retired : List RetiredCell) → is_among cell (present_ids present ++ retired_ids retired)
    ≡ (list_any (λ (one : PresentKey). one.cell == cell) present || list_any (λ (one : RetiredCell). one.cell == cell) retired)
among_either cell [] retired = among_retired cell retired
among_either cell (one ∷ present) retired =
    ap (λ (later : Bool). (one.cell == cell) || later) (among_either cell present retired)
    ∙ or_or (one.cell == cell) (list_any (λ (one : PresentKey). one.cell == cell) present) (list_any (λ (one : RetiredCell). one.cell == cell) retired)

length_either : (present : List PresentKey) (retired : List RetiredCell) → length (present_ids present ++ retired_ids retired) ≡ length present + length retired
length_either present retired =
    let all = length-append (present_ids present) (retired_ids retired) in
    let first = length-map present (λ (one : PresentKey). one.cell) in
    let second = length-map retired (λ (one : RetiredCell). one.cell) in
    omega (arith, all, first, second)

-- ---- an array's cells are those of its opening

none_created : (kind : MapKind) (plan : ShardPlan) (shard : SequentialShard) (flags : Option UpdateFlags) (cell : Option ℕ) → kind ≡ Array →
    (is_zero (update_answer_by kind plan shard flags cell) && not (is_some cell)) ≡ false
none_created Array plan shard None cell is = refl
none_created Array plan shard (Some flags) None is = refl
none_created Array plan shard (Some Any) (Some cell) is = refl
none_created Array plan shard (Some NoExist) (Some cell) is = refl
none_created Array plan shard (Some Exist) (Some cell) is = refl
none_created Hash plan shard flags cell is = absurd cc
none_created LruHash plan shard flags cell is = absurd cc

no_creation : (plan : ShardPlan) (shard : SequentialShard) (call : Call) → plan.definition.kind ≡ Array → creates plan shard call ≡ false
no_creation plan shard (Enter number) is = refl
no_creation plan shard (Leave number) is = refl
no_creation plan shard (Lookup number key) is = refl
no_creation plan shard (Load cell offset size) is = refl
no_creation plan shard (Store cell offset size value) is = refl
no_creation plan shard (Atomic cell offset size op value expected) is = refl
no_creation plan shard (Update number key value flags) is = none_created plan.definition.kind plan shard (update_flags_of flags) (cell_of_key plan shard key) is
no_creation plan shard (Delete number key) is = refl
no_creation plan shard (Reclaim number) is = refl

abbrev one_where : Bool → ℕ
one_where created = if created then 1 else 0

no_creations : (plan : ShardPlan) (history : List Entry) → plan.definition.kind ≡ Array → creations plan history ≡ 0
no_creations plan [] is = refl
no_creations plan (entry ∷ older) is =
    let none = ap one_where (no_creation plan (shard_after plan older) entry.call is) in
    let rest = no_creations plan older is in
    omega (arith, none, rest)

array_cells : (plan : ShardPlan) (history : List Entry) → plan.definition.kind ≡ Array → length (shard_after plan history).cells ≡ capacity plan
array_cells plan history is =
    let all = ids_count plan history in
    let none = no_creations plan history is in
    let opened = opened_count plan.definition.kind plan is in
    omega (arith, all, none, opened)

-- ---- so few cells are held

few_of_kind : (kind : MapKind) (plan : ShardPlan) (state : SequentialShard) (cells : CellTable) (ids : List ℕ) →
    (kind ≡ Array → length state.cells ≡ capacity plan) → HasAllPlaces kind plan state cells → AreOnce ids →
    ((cell : ℕ) → is_among cell ids ≡ true → is_kept_of_kind kind state cell ≡ true) → length ids ≤ 2 * capacity plan
few_of_kind Array plan state cells ids opened balance once kept =
    let most = few_of ids (below (length state.cells)) once
    (λ cell among. among_below (length state.cells) cell (let is = kept cell among in grind (arith, nat_tests))) in
    let many = length_below (length state.cells) in
    let same = opened refl in
    omega (arith, most, many, same)
few_of_kind Hash plan state cells ids opened balance once kept =
    let most = few_of ids (present_ids state.present ++ retired_ids state.retired) once (λ cell among. among_either cell state.present state.retired ∙ kept cell among) in
    let many = length_either state.present state.retired in
    let all = balance.1 in
    omega (arith, most, many, all)
few_of_kind LruHash plan state cells ids opened balance once kept =
    let most = few_of ids (present_ids state.present ++ retired_ids state.retired) once (λ cell among. among_either cell state.present state.retired ∙ kept cell among) in
    let many = length_either state.present state.retired in
    let all = balance.1 in
    omega (arith, most, many, all)

pub few_held : (plan : ShardPlan) (history : List Entry) (cells : CellTable) → IsPlan plan → IsLegalHistory plan history →
    HasAllPlaces plan.definition.kind plan (shard_after plan history) cells → FewAreHeld plan history
few_held plan history cells is legal balance = record {
  most = λ worker ids known once held.
      let most : plan.workers ≤ 8 = is.at_most_eight in
      let small : worker < 8 = omega (arith, known, most) in
      few_of_kind plan.definition.kind plan (shard_after plan history) cells ids (array_cells plan history) balance once
      (λ cell among. held_is_kept_of_plan plan history worker cell is small legal (held cell among));
}
