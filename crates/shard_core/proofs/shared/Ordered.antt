-- Entries in the order of their keys: a list that was sorted, and that there is one such list.
use Rattle.std.proofs.Common.{◌≡◌, ℕ, zero, suc, ◌+◌, ◌<◌, Bool, true, false, List, [], ◌∷◌, length, reverse, get_or, Option, Some, None, bytes_eq, refl, sym, ap, ◌∙◌, inl, inr, subst, arith}
use Rattle.std.specs.Ordering.{is_lt, ordering_reverse}
use Rattle.std.specs.declared.cmp.Ordering.{Ordering}
use Rattle.std.specs.declared.cmp.Ordering.TheVariants.{Less, Equal, Greater}
use Rattle.std.specs.Cmp.{IsTotalOrder, IsStrictWeakOrder}
use Rattle.std.specs.Fn.{Called, ComparesAs}
use denote.Param.Members.{Mut}
use denote.Ref.{Bor}
use Rattle.std.specs.List.{AllByRecursion, IsDistinct, Contains}
use Rattle.std.specs.List.Sorted.{IsPermutation, IsSortedBy, IsStrictlySortedBy}
use Rattle.std.specs.Map.{lookup, keys_of}
use Rattle.std.proofs.lemmas.Bool.{cases_Bool, false≢true}
use Rattle.std.proofs.lemmas.Cmp.{on_total, nat_list_cmp_total, nat_list_eq_equiv, tied_itself}
use Rattle.std.proofs.lemmas.List.{get_or-map, length-map, reverse-reverse}
use Rattle.std.proofs.lemmas.Fn.{always_returns_same}
use Rattle.std.proofs.lemmas.List.Sorted.{IsPermutation-map, IsPermutation-sym, Contains-permutation, ranks_by}
use Rattle.std.proofs.lemmas.Map.Keys.{sorted_head, sorted_tail, sorted_from_all_adjacent, apart_from_distinct, IsDistinct-IsPermutation, IsDistinct-cons, IsDistinct-tail}
use Rattle.std.proofs.lemmas.Map.Lookups.{exact_bytes}
use Rattle.std.proofs.lemmas.Slice.Eq.{bytes_eq-Decides}
use Rattle.ebpf_decode.specs.declared.map.MapKind.{MapKind}
use Rattle.ebpf_decode.specs.declared.map.MapKind.TheVariants.{Array, Hash, LruHash}
use Rattle.plain_maps.specs.Listed.{ListsAll}
use Rattle.plain_maps.proofs.shared.Listing.{found_behind, none_distinct}
use Rattle.shard_core.specs.Listing.{ordering_bytes, key_order, AreContents}

-- ---- the order

pub order_total : (kind : MapKind) → IsTotalOrder (key_order kind)
order_total kind = on_total (ordering_bytes kind) nat_list_cmp_total

same_key : (kind : MapKind) (one other : List ℕ) → ordering_bytes kind one ≡ ordering_bytes kind other → one ≡ other
same_key Array one other same = sym (reverse-reverse one) ∙ ap reverse same ∙ reverse-reverse other
same_key Hash one other same = same
same_key LruHash one other same = same

tied_keys : (kind : MapKind) (one other : List ℕ) → key_order kind one other ≡ Equal → one ≡ other
tied_keys kind one other tied = same_key kind one other (exact_bytes (ordering_bytes kind one) (ordering_bytes kind other) tied)

-- ---- a list that was sorted

rises : (kind : MapKind) (one other : List ℕ) → bytes_eq one other ≡ false → is_lt (key_order kind other one) ≡ false → key_order kind one other ≡ Less
rises kind one other apart not_below = by (key_order kind one other) refl
  where
    by : (o : Ordering) → key_order kind one other ≡ o → key_order kind one other ≡ Less
    by Less is = is
    by Equal is = absurd (false≢true (sym apart ∙ (bytes_eq-Decides one other).1 (tied_keys kind one other is)))
    by Greater is = absurd (false≢true (sym not_below ∙ ap is_lt ((order_total kind).antisymm other one ∙ ap ordering_reverse is)))

pub strictly_sorted : (kind : MapKind) (entries : List (List ℕ × List ℕ)) → IsDistinct bytes_eq (keys_of entries) → IsSortedBy (λ (x y : List ℕ × List ℕ). is_lt (key_order kind x.0 y.0)) entries → IsStrictlySortedBy (key_order kind) (keys_of entries)
strictly_sorted kind entries apart sorted = sorted_from_all_adjacent (order_total kind) (keys_of entries) [] next
  where
    next : (k : ℕ) → k + 1 < length (keys_of entries) → key_order kind (get_or (keys_of entries) k []) (get_or (keys_of entries) (k + 1) []) ≡ Less
    next k within =
        let long : length (keys_of entries) ≡ length entries = length-map entries (λ (e : List ℕ × List ℕ). e.0) in
        let here : get_or (keys_of entries) k [] ≡ (get_or entries k ([], [])).0 = get_or-map (λ (e : List ℕ × List ℕ). e.0) entries k ([], []) [] (omega (arith, long, within)) in
        let later : get_or (keys_of entries) (k + 1) [] ≡ (get_or entries (k + 1) ([], [])).0 = get_or-map (λ (e : List ℕ × List ℕ). e.0) entries (k + 1) ([], []) [] (omega (arith, long, within)) in
        let not_below = sorted k ([], []) (omega arith) (omega (arith, long, within)) in
        rises kind (get_or (keys_of entries) k []) (get_or (keys_of entries) (k + 1) []) (apart_from_distinct bytes_eq (keys_of entries) k (k + 1) [] apart (omega arith) within)
        (subst (λ (one : List ℕ). is_lt (key_order kind (get_or (keys_of entries) (k + 1) []) one) ≡ false) (sym here)
        (subst (λ (other : List ℕ). is_lt (key_order kind other (get_or entries k ([], [])).0) ≡ false) (sym later) not_below))

-- ---- the same look-ups

pair_same : (x y : List ℕ × List ℕ) → x.0 ≡ y.0 → x.1 ≡ y.1 → x ≡ y
pair_same x y first second = subst (λ (v : List ℕ). x ≡ (y.0, v)) second (subst (λ (k : List ℕ). x ≡ (k, x.1)) first refl)

found_contains : (key value : List ℕ) (xs : List (List ℕ × List ℕ)) → lookup (bytes_eq key) xs ≡ Some value → Contains xs (key, value)
found_contains key value [] found = absurd (cc found)
found_contains key value (x ∷ xs) found = elim (cases_Bool (bytes_eq key x.0)) [
  | inl here ↦ (let same : key ≡ x.0 = (bytes_eq-Decides key x.0).0 here in
      let read : Some x.1 ≡ Some value = rw here at found in
      let is : x.1 ≡ value = cc read in
      (zero, omega arith, pair_same x (key, value) (sym same) is))
  | inr later ↦ (let rest = found_contains key value xs (rw later at found) in
      let within : rest.0 < length xs = rest.1 in
      (suc rest.0, omega arith, rest.2))
]

contains_found : (key value : List ℕ) (xs : List (List ℕ × List ℕ)) → IsDistinct bytes_eq (keys_of xs) → (k : ℕ) → k < length xs → get_or xs k (key, value) ≡ (key, value) → lookup (bytes_eq key) xs ≡ Some value
contains_found key value [] apart k within is = absurd (omega arith)
contains_found key value (x ∷ xs) apart zero within is =
    let here : bytes_eq key x.0 ≡ true = (bytes_eq-Decides key x.0).1 (sym (ap (λ (e : List ℕ × List ℕ). e.0) is)) in
    rw here (ap (λ (e : List ℕ × List ℕ). Some e.1) is)
contains_found key value (x ∷ xs) apart (suc k) within is =
    found_behind key x xs value apart (contains_found key value xs (IsDistinct-tail bytes_eq x.0 (keys_of xs) apart) k (omega arith) is)

module _ (xs ys : List (List ℕ × List ℕ)) (permuted : IsPermutation xs ys) (apart : IsDistinct bytes_eq (keys_of xs)) where
  pub distinct_permuted : IsDistinct bytes_eq (keys_of ys)
  distinct_permuted = IsDistinct-IsPermutation bytes_eq nat_list_eq_equiv.symm (keys_of xs) (keys_of ys) (IsPermutation-map (λ (e : List ℕ × List ℕ). e.0) xs ys permuted) apart

  moved : (key value : List ℕ) → lookup (bytes_eq key) xs ≡ Some value → lookup (bytes_eq key) ys ≡ Some value
  moved key value found =
      let there = Contains-permutation xs ys (key, value) permuted (found_contains key value xs found) in
      contains_found key value ys distinct_permuted there.0 there.1 there.2

  moved_back : (key value : List ℕ) → lookup (bytes_eq key) ys ≡ Some value → lookup (bytes_eq key) xs ≡ Some value
  moved_back key value found =
      let there = Contains-permutation ys xs (key, value) (IsPermutation-sym xs ys permuted) (found_contains key value ys found) in
      contains_found key value xs apart there.0 there.1 there.2

  pub lookup_permuted : (key : List ℕ) → lookup (bytes_eq key) ys ≡ lookup (bytes_eq key) xs
  lookup_permuted key = by (lookup (bytes_eq key) xs) refl
    where
      none : (found : Option (List ℕ)) → lookup (bytes_eq key) ys ≡ found → lookup (bytes_eq key) xs ≡ None → lookup (bytes_eq key) ys ≡ None
      none None is absent = is
      none (Some value) is absent = let clash : None ≡ Some value = sym absent ∙ moved_back key value is in absurd (cc clash)

      by : (found : Option (List ℕ)) → lookup (bytes_eq key) xs ≡ found → lookup (bytes_eq key) ys ≡ lookup (bytes_eq key) xs
      by None absent = none (lookup (bytes_eq key) ys) refl absent ∙ sym absent
      by (Some value) found = moved key value found ∙ sym found

pub contents_sorted : (kind : MapKind) (value : List ℕ → Option (List ℕ)) (xs ys : List (List ℕ × List ℕ)) → ListsAll value xs → IsPermutation xs ys → IsSortedBy (λ (x y : List ℕ × List ℕ). is_lt (key_order kind x.0 y.0)) ys → AreContents kind value ys
contents_sorted kind value xs ys lists permuted sorted = record {
  rising = strictly_sorted kind ys (distinct_permuted xs ys permuted lists.apart) sorted;
  each = λ key. lookup_permuted xs ys permuted lists.apart key ∙ lists.each key;
}

-- ---- there is one such list

module _ (kind : MapKind) where
  above_first : (first key value : List ℕ) (xs : List (List ℕ × List ℕ)) → AllByRecursion (λ other. key_order kind first other ≡ Less) (keys_of xs) → lookup (bytes_eq key) xs ≡ Some value → key_order kind first key ≡ Less
  above_first first key value [] above found = absurd (cc found)
  above_first first key value (x ∷ xs) above found = elim (cases_Bool (bytes_eq key x.0)) [
    | inl here ↦ subst (λ (k : List ℕ). key_order kind first k ≡ Less) (sym ((bytes_eq-Decides key x.0).0 here)) above.0
    | inr later ↦ above_first first key value xs above.1 (rw later at found)
  ]

  not_behind : (x : List ℕ × List ℕ) (xs : List (List ℕ × List ℕ)) (key : List ℕ) → AllByRecursion (λ other. key_order kind x.0 other ≡ Less) (keys_of xs) → key ≡ x.0 → lookup (bytes_eq key) xs ≡ None
  not_behind x xs key above same = by (lookup (bytes_eq key) xs) refl
    where
      by : (found : Option (List ℕ)) → lookup (bytes_eq key) xs ≡ found → lookup (bytes_eq key) xs ≡ None
      by None is = is
      by (Some value) is =
          let below : key_order kind x.0 x.0 ≡ Less = ap (key_order kind x.0) (sym same) ∙ above_first x.0 key value xs above is in
          let clash : Equal ≡ Less = sym (tied_itself (order_total kind) x.0) ∙ below in
          absurd (cc clash)

  one_list : (xs ys : List (List ℕ × List ℕ)) → IsStrictlySortedBy (key_order kind) (keys_of xs) → IsStrictlySortedBy (key_order kind) (keys_of ys)
      → ((key : List ℕ) → lookup (bytes_eq key) xs ≡ lookup (bytes_eq key) ys) → xs ≡ ys
  one_list [] [] rising also each = refl
  one_list [] (y ∷ ys) rising also each = let clash : None ≡ Some y.1 = rw (nat_list_eq_equiv.refl y.0) at (each y.0) in absurd (cc clash)
  one_list (x ∷ xs) [] rising also each = let clash : Some x.1 ≡ None = rw (nat_list_eq_equiv.refl x.0) at (each x.0) in absurd (cc clash)
  one_list (x ∷ xs) (y ∷ ys) rising also each = elim (cases_Bool (bytes_eq x.0 y.0)) [
    | inl here ↦ (let same : x.0 ≡ y.0 = (bytes_eq-Decides x.0 y.0).0 here in
        let found : Some x.1 ≡ Some y.1 = rw (nat_list_eq_equiv.refl x.0, here) at (each x.0) in
        let value : x.1 ≡ y.1 = cc found in
        let first : x ≡ y = pair_same x y same value in
        first_then first (one_list xs ys (sorted_tail (key_order kind) x.0 (keys_of xs) rising) (sorted_tail (key_order kind) y.0 (keys_of ys) also) (rest same)))
    | inr apart ↦ (let back : bytes_eq y.0 x.0 ≡ false = nat_list_eq_equiv.symm y.0 x.0 ∙ apart in
        let x_there : lookup (bytes_eq x.0) ys ≡ Some x.1 = sym (rw (nat_list_eq_equiv.refl x.0, apart) at (each x.0)) in
        let y_there : lookup (bytes_eq y.0) xs ≡ Some y.1 = rw (nat_list_eq_equiv.refl y.0, back) at (each y.0) in
        let one : key_order kind y.0 x.0 ≡ Less = above_first y.0 x.0 x.1 ys (sorted_head (key_order kind) y.0 (keys_of ys) also) x_there in
        let other : key_order kind x.0 y.0 ≡ Less = above_first x.0 y.0 y.1 xs (sorted_head (key_order kind) x.0 (keys_of xs) rising) y_there in
        let clash : Less ≡ Greater = sym other ∙ (order_total kind).antisymm x.0 y.0 ∙ ap ordering_reverse one in
        absurd (cc clash))
  ]
    where
      first_then : x ≡ y → xs ≡ ys → x ∷ xs ≡ y ∷ ys
      first_then first others = ap (λ (one : List ℕ × List ℕ). one ∷ xs) first ∙ ap (λ (rest : List (List ℕ × List ℕ)). y ∷ rest) others

      rest : x.0 ≡ y.0 → (key : List ℕ) → lookup (bytes_eq key) xs ≡ lookup (bytes_eq key) ys
      rest same key = elim (cases_Bool (bytes_eq key x.0)) [
        | inl here ↦ (let is : key ≡ x.0 = (bytes_eq-Decides key x.0).0 here in
            not_behind x xs key (sorted_head (key_order kind) x.0 (keys_of xs) rising) is ∙ sym (not_behind y ys key (sorted_head (key_order kind) y.0 (keys_of ys) also) (is ∙ same)))
        | inr apart ↦ (let apart_too : bytes_eq key y.0 ≡ false = subst (λ (k : List ℕ). bytes_eq key k ≡ false) same apart in
            rw (apart, apart_too) at (each key))
      ]

pub contents_are_one : (kind : MapKind) (value : List ℕ → Option (List ℕ)) (one other : List (List ℕ × List ℕ)) → AreContents kind value one → AreContents kind value other → one ≡ other
contents_are_one kind value one other first second = one_list kind one other first.rising second.rising (λ key. first.each key ∙ sym (second.each key))

-- ---- keys that rise differ

others_rise : (kind : MapKind) (key : List ℕ) (keys : List (List ℕ)) → AllByRecursion (λ other. key_order kind key other ≡ Less) keys → AllByRecursion (λ other. bytes_eq key other ≡ false) keys
others_rise kind key [] above = tt
others_rise kind key (other ∷ keys) above = (differ, others_rise kind key keys above.1)
  where
    differ : bytes_eq key other ≡ false
    differ = elim (cases_Bool (bytes_eq key other)) [
      | inr apart ↦ apart
      | inl equal ↦ (let itself : key_order kind key key ≡ Less = subst (λ (k : List ℕ). key_order kind key k ≡ Less) (sym ((bytes_eq-Decides key other).0 equal)) above.0 in
          let clash : Equal ≡ Less = sym (tied_itself (order_total kind) key) ∙ itself in
          absurd (cc clash))
    ]

rising_differ : (kind : MapKind) (keys : List (List ℕ)) → IsStrictlySortedBy (key_order kind) keys → IsDistinct bytes_eq keys
rising_differ kind [] rising = none_distinct
rising_differ kind (key ∷ keys) rising =
    IsDistinct-cons bytes_eq key keys (others_rise kind key keys (sorted_head (key_order kind) key keys rising)) (rising_differ kind keys (sorted_tail (key_order kind) key keys rising))

pub lists_of_contents : (kind : MapKind) (value : List ℕ → Option (List ℕ)) (entries : List (List ℕ × List ℕ)) → AreContents kind value entries → ListsAll value entries
lists_of_contents kind value entries contents = record { apart = rising_differ kind (keys_of entries) contents.rising; each = contents.each }

-- what a sort by the order of keys leaves
pub contents_by_sort : {F : Type 0} {g : Mut F (Bor (List ℕ × List ℕ) × (Bor (List ℕ × List ℕ) × Unit {0})) Ordering} {f : F} (kind : MapKind) (value : List ℕ → Option (List ℕ)) (xs ys : List (List ℕ × List ℕ))
    → ListsAll value xs → IsPermutation xs ys
    → ((lt : List ℕ × List ℕ → List ℕ × List ℕ → Bool) → IsStrictWeakOrder lt → ComparesAs g lt f → IsSortedBy lt ys)
    → ((a : Bor (List ℕ × List ℕ) × (Bor (List ℕ × List ℕ) × Unit {0})) (r : Ordering) (f' : F) → Called g f a r f' → (r ≡ key_order kind a.0.now.0 a.1.0.now.0) × (f' ≡ f))
    → AreContents kind value ys
contents_by_sort {g = g} {f = f} kind value xs ys lists permuted sorted answers =
    contents_sorted kind value xs ys lists permuted
    (sorted (λ x y. is_lt (key_order kind x.0 y.0)) (ranks_by (order_total kind) (λ (e : List ℕ × List ℕ). e.0))
    (always_returns_same g (λ a r. is_lt r ≡ is_lt (key_order kind a.0.now.0 a.1.0.now.0)) f (λ a r f' k. (ap is_lt (answers a r f' k).0, (answers a r f' k).1))))
