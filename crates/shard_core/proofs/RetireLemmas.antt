-- What a retirement and a Reclaim leave of cells and keys.
use Rattle.std.proofs.Common.{◌≡◌, ◌≢◌, ℕ, suc, ◌+◌, ◌<◌, ◌≤◌, Bool, true, false, cond, not, ◌||◌, nat_lt, List, [], ◌∷◌, ◌++◌, map, reverse, length, get_or, Some, arith, refl, sym, ◌∙◌, ap, subst}
use Rattle.std.specs.Prelude.{◌==◌, IsTrue, filter, find, bytes_eq}
use Rattle.std.specs.List.{AllByRecursion, list_any}
use Rattle.std.proofs.lemmas.List.{length-reverse, length-append, reverse-append, get_or_append_left, get_or_push}
use Rattle.std.proofs.lemmas.List.Elements.{filter-append}
use Rattle.std.proofs.lemmas.List.Filters.{length-filter_both}
use Rattle.std.proofs.lemmas.Bool.Decides.{nat_tests}
use Rattle.ebpf_decode.specs.declared.map.MapKind.{MapKind}
use Rattle.ebpf_decode.specs.declared.map.MapKind.TheVariants.{Array, Hash, LruHash}
use Rattle.semantics.specs.declared.call.Entry.{Entry}
use Rattle.semantics.specs.declared.plan.ShardPlan.{ShardPlan}
use Rattle.semantics.specs.declared.plan.PresentKey.{PresentKey}
use Rattle.semantics.specs.declared.plan.RetiredCell.{RetiredCell}
use Rattle.semantics.specs.Reclamation.{is_reclaimable}
use Rattle.semantics.specs.SequentialShard.{SequentialShard, without_key, is_kept, is_kept_of_kind}
use Rattle.semantics.specs.UseLaws.{ArePairwise}
use Rattle.semantics.proofs.shared.HoldingLemmas.{each_weaker, IsSound}
use Rattle.map_cells.specs.declared.retired.Retired.{Retired}
use Rattle.map_cells.specs.CellTable.{CellTable, retired_at, unused_retired, with_retired, is_below, freed_below, without_cells, IsNotRetired, IsLatestStamp}
use Rattle.shard_core.specs.declared.keys.KeyTable.{KeyTable}
use Rattle.shard_core.specs.KeyTables.{FitsPlan, HasKeys, IsKeyed}
use Rattle.shard_core.specs.ShardFields.{Mirrors, waiting, HasAllPlaces, IsContents}
use Rattle.shard_core.proofs.MirrorLemmas.{mirrors_fewer, mirrors_without, length-without, IsNone}
use Rattle.shard_core.proofs.StateLemmas.{IsGone, key_gone}
use Rattle.shard_core.proofs.KeyLemmas.{IsNoUse, keyed_kind, keys_on}

-- ---- the retired cells, the oldest first

abbrev pub oldest_first : (ℕ → ℕ) → List RetiredCell → List Retired
oldest_first epochs gone = reverse (map (waiting epochs) gone)

oldest_cons : (epochs : ℕ → ℕ) (one : RetiredCell) (others : List RetiredCell) → oldest_first epochs (one ∷ others) ≡ oldest_first epochs others ++ waiting epochs one ∷ []
oldest_cons epochs one others = reverse-append (waiting epochs one ∷ []) (map (waiting epochs) others)

same_count : (epochs : ℕ → ℕ) (gone : List RetiredCell) → length (map (waiting epochs) gone) ≡ length gone
same_count epochs [] = refl
same_count epochs (one ∷ others) = ap suc (same_count epochs others)

pub oldest_count : (epochs : ℕ → ℕ) (gone : List RetiredCell) → length (oldest_first epochs gone) ≡ length gone
oldest_count epochs gone = length-reverse (map (waiting epochs) gone) ∙ same_count epochs gone

-- what holds of each holds at each place
pub each_oldest : (epochs : ℕ → ℕ) (P : Retired → Type 0) (gone : List RetiredCell) → AllByRecursion (λ one. P (waiting epochs one)) gone → (k : ℕ) → k < length (oldest_first epochs gone) → P (get_or (oldest_first epochs gone) k unused_retired)
each_oldest epochs P [] each k within = absurd (omega (arith, within))
each_oldest epochs P (one ∷ others) each k within = rw (oldest_cons epochs one others) (by_place (nat_lt k (length (oldest_first epochs others))) refl (each_oldest epochs P others each.1 k))
  where
    by_place : (test : Bool) → nat_lt k (length (oldest_first epochs others)) ≡ test → (k < length (oldest_first epochs others) → P (get_or (oldest_first epochs others) k unused_retired))
        → P (get_or (oldest_first epochs others ++ waiting epochs one ∷ []) k unused_retired)
    by_place true is before =
        let here : k < length (oldest_first epochs others) = grind (arith, nat_tests) in
        subst P (sym (get_or_append_left (oldest_first epochs others) (waiting epochs one ∷ []) unused_retired k here)) (before here)
    by_place false is before =
        let long : length (oldest_first epochs (one ∷ others)) ≡ length (oldest_first epochs others) + 1 = ap length (oldest_cons epochs one others) ∙ length-append (oldest_first epochs others) (waiting epochs one ∷ []) in
        let past : length (oldest_first epochs others) ≤ k = grind (arith, nat_tests) in
        let last : length (oldest_first epochs others) ≡ k = omega (arith, long, past, within) in
        subst P (sym (get_or_push (oldest_first epochs others) (waiting epochs one) unused_retired k last)) each.0

-- ---- a retirement

pub not_retired : (epochs : ℕ → ℕ) (cell : ℕ) (cells : CellTable) (gone : List RetiredCell) → cells.retired ≡ oldest_first epochs gone → AllByRecursion (λ (one : RetiredCell). one.cell ≡ cell → ⊥) gone → IsNotRetired cells cell
not_retired epochs cell cells gone same each =
    subst (λ all. (k : ℕ) → k < length all → (retired_at all k).id ≢ cell) (sym same) (each_oldest epochs (λ one. one.id ≢ cell) gone each)

pub latest_stamp : (epochs : ℕ → ℕ) (stamp : ℕ) (cells : CellTable) (gone : List RetiredCell) → cells.retired ≡ oldest_first epochs gone → AllByRecursion (λ (one : RetiredCell). epochs one.since ≤ stamp) gone → IsLatestStamp cells stamp
latest_stamp epochs stamp cells gone same each =
    subst (λ all. (k : ℕ) → k < length all → (retired_at all k).stamp ≤ stamp) (sym same) (each_oldest epochs (λ one. one.stamp ≤ stamp) gone each)

second_or : (a b c : Bool) → (a ≡ true → b ≡ true) → (a || c) ≡ true → (b || c) ≡ true
second_or true b c more is = rw (more refl) refl
second_or false true c more is = refl
second_or false false c more is = is

any_first : (test keep : PresentKey → Bool) (xs : List PresentKey) → list_any test (filter keep xs) ≡ true → list_any test xs ≡ true
any_first test keep [] found = found
any_first test keep (x ∷ xs) found = by_keep (keep x) found (any_first test keep xs)
  where
    by_keep : (k : Bool) → list_any test (cond k (x ∷ filter keep xs) (filter keep xs)) ≡ true → (list_any test (filter keep xs) ≡ true → list_any test xs ≡ true) → (test x || list_any test xs) ≡ true
    by_keep true found later = by_test (test x) found later
      where
        by_test : (t : Bool) → (t || list_any test (filter keep xs)) ≡ true → (list_any test (filter keep xs) ≡ true → list_any test xs ≡ true) → (t || list_any test xs) ≡ true
        by_test true found later = refl
        by_test false found later = later found
    by_keep false found later = by_test (test x) (later found)
      where
        by_test : (t : Bool) → list_any test xs ≡ true → (t || list_any test xs) ≡ true
        by_test true found = refl
        by_test false found = found

-- who is kept without a key was kept before: present, or the key's own cell
kept_of_retired : (state : SequentialShard) (place : ℕ) (gone : PresentKey) (id : ℕ) → IsTrue (list_any (λ (one : PresentKey). one.cell == gone.cell) state.present) → IsTrue (is_kept_of_kind Hash (without_key state place gone) id) → IsTrue (is_kept_of_kind Hash state id)
kept_of_retired state place gone id there kept =
    by_own (gone.cell == id) refl kept
  where
    by_own : (own : Bool) → (gone.cell == id) ≡ own
        → (list_any (λ (one : PresentKey). one.cell == id) (filter (λ (one : PresentKey). not (one.cell == gone.cell)) state.present) || (own || list_any (λ (one : RetiredCell). one.cell == id) state.retired)) ≡ true
        → (list_any (λ (one : PresentKey). one.cell == id) state.present || list_any (λ (one : RetiredCell). one.cell == id) state.retired) ≡ true
    by_own true is kept =
        let same : gone.cell ≡ id = grind (arith, nat_tests) in
        let here : list_any (λ (one : PresentKey). one.cell == id) state.present ≡ true = subst (λ cell. list_any (λ (one : PresentKey). one.cell == cell) state.present ≡ true) same there in
        rw here refl
    by_own false is kept =
        second_or (list_any (λ (one : PresentKey). one.cell == id) (filter (λ (one : PresentKey). not (one.cell == gone.cell)) state.present))
        (list_any (λ (one : PresentKey). one.cell == id) state.present) (list_any (λ (one : RetiredCell). one.cell == id) state.retired)
        (any_first (λ (one : PresentKey). one.cell == id) (λ (one : PresentKey). not (one.cell == gone.cell)) state.present) kept

pub found_any : (key : List ℕ) (gone : PresentKey) (present : List PresentKey) → find (λ (one : PresentKey). bytes_eq one.key key) present ≡ Some gone → list_any (λ (one : PresentKey). one.cell == gone.cell) present ≡ true
found_any key gone [] found = cc
found_any key gone (one ∷ rest) found = by_test (bytes_eq one.key key) found (found_any key gone rest)
  where
    by_test : (test : Bool) → cond test (Some one) (find (λ (other : PresentKey). bytes_eq other.key key) rest) ≡ Some gone
        → (find (λ (other : PresentKey). bytes_eq other.key key) rest ≡ Some gone → list_any (λ (other : PresentKey). other.cell == gone.cell) rest ≡ true)
        → ((one.cell == gone.cell) || list_any (λ (other : PresentKey). other.cell == gone.cell) rest) ≡ true
    by_test true found later = let same : one.cell ≡ gone.cell = cc in let this : (one.cell == gone.cell) ≡ true = grind (arith, nat_tests) in rw this refl
    by_test false found later = by_own (one.cell == gone.cell) (later found)
      where
        by_own : (own : Bool) → list_any (λ (other : PresentKey). other.cell == gone.cell) rest ≡ true → (own || list_any (λ (other : PresentKey). other.cell == gone.cell) rest) ≡ true
        by_own true there = refl
        by_own false there = there

kept_of_one_less : (kind : MapKind) (state : SequentialShard) (place : ℕ) (gone : PresentKey) (id : ℕ) → (kind ≡ Array → ⊥) → IsTrue (list_any (λ (one : PresentKey). one.cell == gone.cell) state.present) → IsTrue (is_kept_of_kind kind (without_key state place gone) id) → IsTrue (is_kept_of_kind kind state id)
kept_of_one_less Array state place gone id keyed there kept = absurd (keyed refl)
kept_of_one_less Hash state place gone id keyed there kept = kept_of_retired state place gone id there kept
kept_of_one_less LruHash state place gone id keyed there kept = kept_of_retired state place gone id there kept

balance_of_retired : (kind : MapKind) (plan : ShardPlan) (state : SequentialShard) (cells : CellTable) (place stamp : ℕ) (gone : PresentKey) → (kind ≡ Array → ⊥) → length (filter (λ (one : PresentKey). not (one.cell == gone.cell)) state.present) + 1 ≡ length state.present
    → HasAllPlaces kind plan state cells → HasAllPlaces kind plan (without_key state place gone) (with_retired cells gone.cell stamp)
balance_of_retired Array plan state cells place stamp gone keyed fewer balance = absurd (keyed refl)
balance_of_retired Hash plan state cells place stamp gone keyed fewer balance = (balance.0, omega (arith, balance.1, fewer))
balance_of_retired LruHash plan state cells place stamp gone keyed fewer balance = (balance.0, omega (arith, balance.1, fewer))

pub contents_retired : (epochs : ℕ → ℕ) (plan : ShardPlan) (history : List Entry) (state : SequentialShard) (cells : CellTable) (keys keys_after : KeyTable) (key : List ℕ) (gone : PresentKey) (place : ℕ) → IsKeyed keys
    → find (λ (one : PresentKey). bytes_eq one.key key) state.present ≡ Some gone
    → ArePairwise (λ (one other : PresentKey). one.key ≡ other.key → ⊥) state.present → ArePairwise (λ (one other : PresentKey). one.cell ≡ other.cell → ⊥) state.present
    → IsContents plan epochs history state cells keys → FitsPlan keys_after plan → HasKeys keys_after history (filter (λ (one : PresentKey). not (one.cell == gone.cell)) state.present)
    → IsContents plan epochs history (without_key state place gone) (with_retired cells gone.cell (epochs place)) keys_after
contents_retired epochs plan history state cells keys keys_after key gone place keyed found differ apart contents fits has =
    let left : IsGone key gone state.present = key_gone key gone state.present found differ apart in
    let kind : plan.definition.kind ≡ Array → ⊥ = keyed_kind keys plan keyed contents.fits in
    record {
      sized = contents.sized;
      counted = contents.counted;
      mirrored = mirrors_fewer (is_kept plan state) (is_kept plan (without_key state place gone)) cells.cells state.cells
          (λ id. kept_of_one_less plan.definition.kind state place gone id kind (found_any key gone state.present found)) contents.mirrored;
      retired = ap (λ all. all ++ (record { id = gone.cell; stamp = epochs place }) ∷ []) contents.retired ∙ sym (oldest_cons epochs (record { cell = gone.cell; since = place }) state.retired);
      id_room = contents.id_room;
      balance = balance_of_retired plan.definition.kind plan state cells place (epochs place) gone kind left.count contents.balance;
      fits = fits;
      has = has;
    }

-- ---- a Reclaim

filter_oldest : (epochs : ℕ → ℕ) (test : Retired → Bool) (gone : List RetiredCell) → filter test (oldest_first epochs gone) ≡ oldest_first epochs (filter (λ one. test (waiting epochs one)) gone)
filter_oldest epochs test [] = refl
filter_oldest epochs test (one ∷ others) =
    ap (filter test) (oldest_cons epochs one others) ∙ filter-append test (oldest_first epochs others) (waiting epochs one ∷ []) ∙ by_test (test (waiting epochs one)) (filter_oldest epochs test others)
  where
    by_test : (t : Bool) → filter test (oldest_first epochs others) ≡ oldest_first epochs (filter (λ one. test (waiting epochs one)) others)
        → filter test (oldest_first epochs others) ++ cond t (waiting epochs one ∷ []) [] ≡ oldest_first epochs (cond t (one ∷ filter (λ one. test (waiting epochs one)) others) (filter (λ one. test (waiting epochs one)) others))
    by_test true before = ap (λ front. front ++ waiting epochs one ∷ []) before ∙ sym (oldest_cons epochs one (filter (λ one. test (waiting epochs one)) others))
    by_test false before = append_nothing (filter test (oldest_first epochs others)) ∙ before
      where
        append_nothing : (xs : List Retired) → xs ++ [] ≡ xs
        append_nothing [] = refl
        append_nothing (x ∷ xs) = ap (λ rest. x ∷ rest) (append_nothing xs)

filter_same : (first second : RetiredCell → Bool) (gone : List RetiredCell) → AllByRecursion (λ one. first one ≡ second one) gone → filter first gone ≡ filter second gone
filter_same first second [] each = refl
filter_same first second (one ∷ others) each = rw (each.0) (rw (filter_same first second others each.1) refl)

-- the retired cells that are below the floor are those that may be freed
pub record IsFloorFor (epochs : ℕ → ℕ) (floor : ℕ) (history : List Entry) (gone : List RetiredCell) : Type 0 where
  pub tells : AllByRecursion (λ (one : RetiredCell). is_below floor (waiting epochs one) ≡ is_reclaimable history one) gone

pub freed_are : (epochs : ℕ → ℕ) (floor : ℕ) (history : List Entry) (gone : List RetiredCell) → IsFloorFor epochs floor history gone → filter (is_below floor) (oldest_first epochs gone) ≡ oldest_first epochs (filter (is_reclaimable history) gone)
freed_are epochs floor history gone is =
    filter_oldest epochs (is_below floor) gone ∙ ap (oldest_first epochs) (filter_same (λ one. is_below floor (waiting epochs one)) (is_reclaimable history) gone is.tells)

left_are : (epochs : ℕ → ℕ) (floor : ℕ) (history : List Entry) (gone : List RetiredCell) → IsFloorFor epochs floor history gone
    → filter (λ one. not (is_below floor one)) (oldest_first epochs gone) ≡ oldest_first epochs (filter (λ (one : RetiredCell). not (is_reclaimable history one)) gone)
left_are epochs floor history gone is =
    filter_oldest epochs (λ one. not (is_below floor one)) gone ∙
    ap (oldest_first epochs) (filter_same (λ one. not (is_below floor (waiting epochs one))) (λ (one : RetiredCell). not (is_reclaimable history one)) gone
    (each_weaker (λ (one : RetiredCell). is_below floor (waiting epochs one) ≡ is_reclaimable history one) (λ (one : RetiredCell). not (is_below floor (waiting epochs one)) ≡ not (is_reclaimable history one)) (λ one same. ap not same) gone is.tells))

any_apart : (cell id : ℕ) (xs : List RetiredCell) → AllByRecursion (λ (other : RetiredCell). cell ≡ other.cell → ⊥) xs → list_any (λ (one : RetiredCell). one.cell == id) xs ≡ true → cell ≡ id → ⊥
any_apart cell id [] each found same = cc
any_apart cell id (x ∷ xs) each found same = by_test (x.cell == id) refl found (λ more. any_apart cell id xs each.1 more same)
  where
    by_test : (test : Bool) → (x.cell == id) ≡ test → (test || list_any (λ (one : RetiredCell). one.cell == id) xs) ≡ true → (list_any (λ (one : RetiredCell). one.cell == id) xs ≡ true → ⊥) → ⊥
    by_test true is found later = let this : x.cell ≡ id = grind (arith, nat_tests) in each.0 (same ∙ sym this)
    by_test false is found later = later found

any_of_filter : (test keep : RetiredCell → Bool) (xs : List RetiredCell) → list_any test (filter keep xs) ≡ true → list_any test xs ≡ true
any_of_filter test keep [] found = found
any_of_filter test keep (x ∷ xs) found = by_keep (keep x) (test x) found (any_of_filter test keep xs)
  where
    by_keep : (k t : Bool) → list_any test (cond k (x ∷ filter keep xs) (filter keep xs)) ≡ true → (list_any test (filter keep xs) ≡ true → list_any test xs ≡ true) → (test x || list_any test xs) ≡ true
    by_keep true t found later = by_test (test x) found
      where
        by_test : (t : Bool) → (t || list_any test (filter keep xs)) ≡ true → (t || list_any test xs) ≡ true
        by_test true found = refl
        by_test false found = later found
    by_keep false t found later = by_test (test x)
      where
        by_test : (t : Bool) → (t || list_any test xs) ≡ true
        by_test true = refl
        by_test false = later found

-- an id that waits on is none of those that are freed
waiting_apart : (history : List Entry) (id : ℕ) (gone : List RetiredCell) → ArePairwise (λ (one other : RetiredCell). one.cell ≡ other.cell → ⊥) gone
    → list_any (λ (one : RetiredCell). one.cell == id) (filter (λ (one : RetiredCell). not (is_reclaimable history one)) gone) ≡ true
    → AllByRecursion (λ (one : RetiredCell). is_reclaimable history one ≡ true → one.cell ≡ id → ⊥) gone
waiting_apart history id [] pairs found = tt
waiting_apart history id (one ∷ others) pairs found = by_test (is_reclaimable history one) refl found (waiting_apart history id others pairs.1)
  where
    by_test : (freed : Bool) → is_reclaimable history one ≡ freed
        → list_any (λ (other : RetiredCell). other.cell == id) (cond (not freed) (one ∷ filter (λ (other : RetiredCell). not (is_reclaimable history other)) others) (filter (λ (other : RetiredCell). not (is_reclaimable history other)) others)) ≡ true
        → (list_any (λ (other : RetiredCell). other.cell == id) (filter (λ (other : RetiredCell). not (is_reclaimable history other)) others) ≡ true → AllByRecursion (λ (other : RetiredCell). is_reclaimable history other ≡ true → other.cell ≡ id → ⊥) others)
        → AllByRecursion (λ (other : RetiredCell). is_reclaimable history other ≡ true → other.cell ≡ id → ⊥) (one ∷ others)
    by_test true is found later = ((λ _ same. any_apart one.cell id others pairs.0 (any_of_filter (λ (other : RetiredCell). other.cell == id) (λ (other : RetiredCell). not (is_reclaimable history other)) others found) same), later found)
    by_test false is found later = by_own (one.cell == id) refl found
      where
        by_own : (own : Bool) → (one.cell == id) ≡ own → (own || list_any (λ (other : RetiredCell). other.cell == id) (filter (λ (other : RetiredCell). not (is_reclaimable history other)) others)) ≡ true
            → AllByRecursion (λ (other : RetiredCell). is_reclaimable history other ≡ true → other.cell ≡ id → ⊥) (one ∷ others)
        by_own true this found =
            let same : one.cell ≡ id = grind (arith, nat_tests) in
            ((λ freed. absurd cc), each_weaker (λ (other : RetiredCell). one.cell ≡ other.cell → ⊥) (λ (other : RetiredCell). is_reclaimable history other ≡ true → other.cell ≡ id → ⊥) (λ other apart freed at. apart (same ∙ sym at)) others pairs.0)
        by_own false this found = ((λ freed. absurd cc), later found)

-- nor is a present one
present_apart : (id : ℕ) (present : List PresentKey) (gone : List RetiredCell) → AllByRecursion (λ (one : PresentKey). AllByRecursion (λ (other : RetiredCell). one.cell ≡ other.cell → ⊥) gone) present
    → list_any (λ (one : PresentKey). one.cell == id) present ≡ true → AllByRecursion (λ (other : RetiredCell). other.cell ≡ id → ⊥) gone
present_apart id [] gone each found = cc
present_apart id (one ∷ rest) gone each found = by_own (one.cell == id) refl found (present_apart id rest gone each.1)
  where
    by_own : (own : Bool) → (one.cell == id) ≡ own → (own || list_any (λ (other : PresentKey). other.cell == id) rest) ≡ true
        → (list_any (λ (other : PresentKey). other.cell == id) rest ≡ true → AllByRecursion (λ (other : RetiredCell). other.cell ≡ id → ⊥) gone) → AllByRecursion (λ (other : RetiredCell). other.cell ≡ id → ⊥) gone
    by_own true is found later =
        let same : one.cell ≡ id = grind (arith, nat_tests) in
        each_weaker (λ (other : RetiredCell). one.cell ≡ other.cell → ⊥) (λ (other : RetiredCell). other.cell ≡ id → ⊥) (λ other apart at. apart (same ∙ sym at)) gone each.0
    by_own false is found later = later found

none_append : (id : ℕ) (xs ys : List Retired) → IsNone id xs → IsNone id ys → IsNone id (xs ++ ys)
none_append id [] ys none others = others
none_append id (x ∷ xs) ys none others = (none.0, none_append id xs ys none.1 others)

none_oldest : (epochs : ℕ → ℕ) (id : ℕ) (gone : List RetiredCell) → AllByRecursion (λ (one : RetiredCell). one.cell ≡ id → ⊥) gone → IsNone id (oldest_first epochs gone)
none_oldest epochs id [] each = tt
none_oldest epochs id (one ∷ others) each = subst (IsNone id) (sym (oldest_cons epochs one others)) (none_append id (oldest_first epochs others) (waiting epochs one ∷ []) (none_oldest epochs id others each.1) ((λ same. each.0 (sym same)), tt))

each_passing : (P : RetiredCell → Type 0) (test : RetiredCell → Bool) (xs : List RetiredCell) → AllByRecursion (λ x. test x ≡ true → P x) xs → AllByRecursion P (filter test xs)
each_passing P test [] each = tt
each_passing P test (x ∷ xs) each = by_test (test x) refl (each_passing P test xs each.1)
  where
    by_test : (t : Bool) → test x ≡ t → AllByRecursion P (filter test xs) → AllByRecursion P (cond t (x ∷ filter test xs) (filter test xs))
    by_test true is rest = (each.0 is, rest)
    by_test false is rest = rest

abbrev pub after_reclaim : List Entry → SequentialShard → SequentialShard
after_reclaim history state = record state { retired = filter (λ retired. not (is_reclaimable history retired)) state.retired }

kept_of_freed : (epochs : ℕ → ℕ) (history : List Entry) (state : SequentialShard) (id : ℕ) → IsSound state → ArePairwise (λ (one other : RetiredCell). one.cell ≡ other.cell → ⊥) state.retired
    → IsTrue (is_kept_of_kind Hash (after_reclaim history state) id) → IsTrue (is_kept_of_kind Hash state id) × IsNone id (oldest_first epochs (filter (is_reclaimable history) state.retired))
kept_of_freed epochs history state id sound pairs kept = by_present (list_any (λ (one : PresentKey). one.cell == id) state.present) refl kept
  where
    by_present : (there : Bool) → list_any (λ (one : PresentKey). one.cell == id) state.present ≡ there
        → (there || list_any (λ (one : RetiredCell). one.cell == id) (filter (λ (one : RetiredCell). not (is_reclaimable history one)) state.retired)) ≡ true
        → ((list_any (λ (one : PresentKey). one.cell == id) state.present || list_any (λ (one : RetiredCell). one.cell == id) state.retired) ≡ true) × IsNone id (oldest_first epochs (filter (is_reclaimable history) state.retired))
    by_present true is kept = (
      rw is refl,
      none_oldest epochs id (filter (is_reclaimable history) state.retired)
          (each_passing (λ (one : RetiredCell). one.cell ≡ id → ⊥) (is_reclaimable history) state.retired
          (each_weaker (λ (one : RetiredCell). one.cell ≡ id → ⊥) (λ (one : RetiredCell). is_reclaimable history one ≡ true → one.cell ≡ id → ⊥) (λ one apart freed. apart) state.retired (present_apart id state.present state.retired sound.apart is))),
    )
    by_present false is kept = (
      rw is (any_of_filter (λ (one : RetiredCell). one.cell == id) (λ (one : RetiredCell). not (is_reclaimable history one)) state.retired kept),
      none_oldest epochs id (filter (is_reclaimable history) state.retired)
          (each_passing (λ (one : RetiredCell). one.cell ≡ id → ⊥) (is_reclaimable history) state.retired (waiting_apart history id state.retired pairs kept)),
    )

balance_of_freed : (floor : ℕ) (history : List Entry) (plan : ShardPlan) (state : SequentialShard) (cells : CellTable) → length (filter (is_below floor) cells.retired) ≡ length (filter (is_reclaimable history) state.retired) → HasAllPlaces Hash plan state cells → HasAllPlaces Hash plan (after_reclaim history state) (freed_below floor cells)
balance_of_freed floor history plan state cells same balance =
    let both : length (filter (is_reclaimable history) state.retired) + length (filter (λ (one : RetiredCell). not (is_reclaimable history one)) state.retired) ≡ length state.retired =
    length-filter_both (is_reclaimable history) (λ (one : RetiredCell). not (is_reclaimable history one)) (λ one. refl) state.retired in
    (balance.0, omega (arith, balance.1, both, same))

-- an array retires nothing
no_change : (floor : ℕ) (history : List Entry) (plan : ShardPlan) (state : SequentialShard) (cells : CellTable) → state.retired ≡ [] → cells.retired ≡ [] → without_cells (filter (is_below floor) cells.retired) cells.cells ≡ cells.cells
no_change floor history plan state cells none same = rw same refl

mirrored_freed : (epochs : ℕ → ℕ) (floor : ℕ) (history : List Entry) (state : SequentialShard) (cells : CellTable) → filter (is_below floor) cells.retired ≡ oldest_first epochs (filter (is_reclaimable history) state.retired)
    → IsSound state → ArePairwise (λ (one other : RetiredCell). one.cell ≡ other.cell → ⊥) state.retired
    → Mirrors (is_kept_of_kind Hash state) cells.cells state.cells → Mirrors (is_kept_of_kind Hash (after_reclaim history state)) (without_cells (filter (is_below floor) cells.retired) cells.cells) state.cells
mirrored_freed epochs floor history state cells freed sound pairs mirrored =
    subst (λ gone. Mirrors (is_kept_of_kind Hash (after_reclaim history state)) (without_cells gone cells.cells) state.cells) (sym freed)
    (mirrors_without (is_kept_of_kind Hash state) (is_kept_of_kind Hash (after_reclaim history state)) (oldest_first epochs (filter (is_reclaimable history) state.retired)) cells.cells state.cells
    (λ id. kept_of_freed epochs history state id sound pairs) mirrored)

mirrored_of_freed : (epochs : ℕ → ℕ) (kind : MapKind) (floor : ℕ) (history : List Entry) (plan : ShardPlan) (state : SequentialShard) (cells : CellTable) → filter (is_below floor) cells.retired ≡ oldest_first epochs (filter (is_reclaimable history) state.retired)
    → IsSound state → ArePairwise (λ (one other : RetiredCell). one.cell ≡ other.cell → ⊥) state.retired → (kind ≡ Array → state.retired ≡ []) → cells.retired ≡ oldest_first epochs state.retired
    → Mirrors (is_kept_of_kind kind state) cells.cells state.cells → Mirrors (is_kept_of_kind kind (after_reclaim history state)) (without_cells (filter (is_below floor) cells.retired) cells.cells) state.cells
mirrored_of_freed epochs Array floor history plan state cells freed sound pairs array retired mirrored =
    let none : state.retired ≡ [] = array refl in
    subst (λ table. Mirrors (is_kept_of_kind Array state) table state.cells) (sym (no_change floor history plan state cells none (retired ∙ ap (oldest_first epochs) none))) mirrored
mirrored_of_freed epochs Hash floor history plan state cells freed sound pairs array retired mirrored = mirrored_freed epochs floor history state cells freed sound pairs mirrored
mirrored_of_freed epochs LruHash floor history plan state cells freed sound pairs array retired mirrored = mirrored_freed epochs floor history state cells freed sound pairs mirrored

balance_of_kind_freed : (kind : MapKind) (floor : ℕ) (history : List Entry) (plan : ShardPlan) (state : SequentialShard) (cells : CellTable) → length (filter (is_below floor) cells.retired) ≡ length (filter (is_reclaimable history) state.retired)
    → HasAllPlaces kind plan state cells → HasAllPlaces kind plan (after_reclaim history state) (freed_below floor cells)
balance_of_kind_freed Array floor history plan state cells same balance = tt
balance_of_kind_freed Hash floor history plan state cells same balance = balance_of_freed floor history plan state cells same balance
balance_of_kind_freed LruHash floor history plan state cells same balance = balance_of_freed floor history plan state cells same balance

pub contents_freed : (epochs : ℕ → ℕ) (plan : ShardPlan) (entry : Entry) (history : List Entry) (state : SequentialShard) (cells : CellTable) (keys : KeyTable) (floor : ℕ) → IsNoUse entry → IsFloorFor epochs floor history state.retired
    → IsSound state → ArePairwise (λ (one other : RetiredCell). one.cell ≡ other.cell → ⊥) state.retired → (plan.definition.kind ≡ Array → state.retired ≡ [])
    → IsContents plan epochs history state cells keys → IsContents plan epochs (entry ∷ history) (after_reclaim history state) (freed_below floor cells) keys
contents_freed epochs plan entry history state cells keys floor none is sound pairs array contents =
    let freed : filter (is_below floor) cells.retired ≡ oldest_first epochs (filter (is_reclaimable history) state.retired) = ap (filter (is_below floor)) contents.retired ∙ freed_are epochs floor history state.retired is in
    record {
      sized = contents.sized;
      counted = length-without (filter (is_below floor) cells.retired) cells.cells ∙ contents.counted;
      mirrored = mirrored_of_freed epochs plan.definition.kind floor history plan state cells freed sound pairs array contents.retired contents.mirrored;
      retired = ap (filter (λ one. not (is_below floor one))) contents.retired ∙ left_are epochs floor history state.retired is;
      id_room = contents.id_room;
      balance = balance_of_kind_freed plan.definition.kind floor history plan state cells (ap length freed ∙ oldest_count epochs (filter (is_reclaimable history) state.retired)) contents.balance;
      fits = contents.fits;
      has = keys_on keys entry history state.present none contents.has;
    }
