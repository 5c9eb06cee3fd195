-- What a use, a release, a new key and an eviction leave of the keys in order.
use Rattle.std.proofs.Common.{◌≡◌, ◌≢◌, ℕ, zero, suc, ◌+◌, ◌-◌, ◌<◌, ◌≤◌, Bool, true, false, cond, List, [], ◌∷◌, ◌++◌, length, slice_get, Option, Some, None, refl, sym, ap, ◌∙◌, inl, inr, arith, nat_eq, eq-eqb, bytes_eq}
use Rattle.std.specs.Map.{lookup, lookup_entry, remove_entry}
use Rattle.std.proofs.lemmas.Bool.{cases_Bool, false≢true, eqb-true}
use Rattle.std.proofs.lemmas.Slice.Eq.{bytes_eq-Decides}
use Rattle.lru.specs.LruCache.{promoted}
use Rattle.plain_maps.specs.Keyed.{AreInverse}
use Rattle.lru_maps.specs.Recency.{is_listed, without, used, released, countdown, StandOnce}
use Rattle.lru_maps.specs.Numbered.{with_present_entry, in_order, HaveNoKey, FreeAreLast}

pub same_key : (a b : List ℕ) → bytes_eq a b ≡ true → a ≡ b
same_key a b same = (bytes_eq-Decides a b).0 same

pub key_same : (a : List ℕ) → bytes_eq a a ≡ true
key_same a = (bytes_eq-Decides a a).1 refl

-- ---- the numbers alone

listed_else : (n m : ℕ) (order : List ℕ) → nat_eq n m ≡ false → is_listed n (without m order) ≡ is_listed n order
listed_else n m [] apart = refl
listed_else n m (x ∷ order) apart = by_test (nat_eq m x) refl (listed_else n m order apart)
  where
    by_test : (t : Bool) → nat_eq m x ≡ t → is_listed n (without m order) ≡ is_listed n order → is_listed n (cond t order (x ∷ without m order)) ≡ is_listed n (x ∷ order)
    by_test true here rest = (let is : m ≡ x = eqb-true m x here in rw (← is, apart) refl)
    by_test false past rest = ap (λ (later : Bool). cond (nat_eq n x) true later) rest

length_without : (n : ℕ) (order : List ℕ) → is_listed n order ≡ true → length (without n order) + 1 ≡ length order
length_without n [] there = absurd (false≢true there)
length_without n (x ∷ order) there = by_test (nat_eq n x) there (λ is. length_without n order is)
  where
    by_test : (t : Bool) → cond t true (is_listed n order) ≡ true → (is_listed n order ≡ true → length (without n order) + 1 ≡ length order) → length (cond t order (x ∷ without n order)) + 1 ≡ length (x ∷ order)
    by_test true is before = omega arith
    by_test false is before = let rest = before is in omega (arith, rest)

pub gone : (n : ℕ) (order : List ℕ) → StandOnce order → is_listed n (without n order) ≡ false
gone n [] once = refl
gone n (x ∷ order) once = by_test (nat_eq n x) refl (gone n order once.1)
  where
    by_test : (t : Bool) → nat_eq n x ≡ t → is_listed n (without n order) ≡ false → is_listed n (cond t order (x ∷ without n order)) ≡ false
    by_test true here rest = (let is : n ≡ x = eqb-true n x here in rw is once.0)
    by_test false past rest = rw past rest

listed_append : (n m : ℕ) (order : List ℕ) → is_listed n (order ++ m ∷ []) ≡ cond (is_listed n order) true (nat_eq n m)
listed_append n m [] = by_test (nat_eq n m)
  where
    by_test : (t : Bool) → cond t true false ≡ t
    by_test true = refl
    by_test false = refl
listed_append n m (x ∷ order) = by_test (nat_eq n x) (listed_append n m order)
  where
    by_test : (t : Bool) → is_listed n (order ++ m ∷ []) ≡ cond (is_listed n order) true (nat_eq n m) → cond t true (is_listed n (order ++ m ∷ [])) ≡ cond (cond t true (is_listed n order)) true (nat_eq n m)
    by_test true rest = refl
    by_test false rest = rest

length_append : (n : ℕ) (order : List ℕ) → length (order ++ n ∷ []) ≡ length order + 1
length_append n [] = refl
length_append n (x ∷ order) = let rest = length_append n order in omega (arith, rest)

pub used_listed : (n m : ℕ) (order : List ℕ) → is_listed n order ≡ true → is_listed m (used n order) ≡ is_listed m order
used_listed n m order there = rw there (by_test (nat_eq m n) refl)
  where
    by_test : (t : Bool) → nat_eq m n ≡ t → cond t true (is_listed m (without n order)) ≡ is_listed m order
    by_test true here = (let is : m ≡ n = eqb-true m n here in rw is (sym there))
    by_test false past = listed_else m n order past

pub used_length : (n : ℕ) (order : List ℕ) → is_listed n order ≡ true → length (used n order) ≡ length order
used_length n order there = rw there (let rest = length_without n order there in omega (arith, rest))

pub released_listed : (n m : ℕ) (order : List ℕ) → is_listed n order ≡ true → is_listed m (released n order) ≡ is_listed m order
released_listed n m order there = rw (there, listed_append m n (without n order)) (by_test (nat_eq m n) refl)
  where
    by_test : (t : Bool) → nat_eq m n ≡ t → cond (is_listed m (without n order)) true t ≡ is_listed m order
    by_test true here = (let is : m ≡ n = eqb-true m n here in rw is (any (is_listed n (without n order)) ∙ sym there))
      where
        any : (t : Bool) → cond t true true ≡ true
        any true = refl
        any false = refl
    by_test false past = (let same = listed_else m n order past in rw same (rest (is_listed m order)))
      where
        rest : (t : Bool) → cond t true false ≡ t
        rest true = refl
        rest false = refl

pub released_length : (n : ℕ) (order : List ℕ) → is_listed n order ≡ true → length (released n order) ≡ length order
released_length n order there = rw (there, length_append n (without n order)) (length_without n order there)

-- the last number is listed
pub last_listed : (n : ℕ) (order : List ℕ) → slice_get order (length order - 1) ≡ Some n → is_listed n order ≡ true
last_listed n order last = at_place order (length order - 1) last
  where
    at_place : (order : List ℕ) (i : ℕ) → slice_get order i ≡ Some n → is_listed n order ≡ true
    at_place [] i found = absurd (cc found)
    at_place (x ∷ order) zero found = (let is : x ≡ n = cc found in rw (eq-eqb n x (sym is)) refl)
    at_place (x ∷ order) (suc i) found = by_test (nat_eq n x) (at_place order i found)
      where
        by_test : (t : Bool) → is_listed n order ≡ true → cond t true (is_listed n order) ≡ true
        by_test true there = refl
        by_test false there = there

-- there is a last number where there is one
pub some_last : (order : List ℕ) → 0 < length order → slice_get order (length order - 1) ≡ None → ⊥
some_last order some none = past order (length order - 1) (omega arith) none
  where
    past : (order : List ℕ) (i : ℕ) → i < length order → slice_get order i ≡ None → ⊥
    past [] i lt none = omega arith
    past (x ∷ order) zero lt none = cc none
    past (x ∷ order) (suc i) lt none = past order i (omega arith) none

-- ---- the keys in order, where keys and ids are these functions

module _ (keys : ℕ → Option (List ℕ)) (ids : ℕ → ℕ) where
  pub order_of_none : (order : List ℕ) → ((m : ℕ) → keys m ≡ None) → in_order keys ids order ≡ []
  order_of_none [] none = refl
  order_of_none (m ∷ order) none = rw (none m) (order_of_none order none)

  pub at_most : (order : List ℕ) → length (in_order keys ids order) ≤ length order
  at_most [] = omega arith
  at_most (m ∷ order) = by_key (keys m) (at_most order)
    where
      by_key : (o : Option (List ℕ)) → length (in_order keys ids order) ≤ length order → length (with_present_entry o (ids m) (in_order keys ids order)) ≤ length (m ∷ order)
      by_key None rest = omega (arith, rest)
      by_key (Some key) rest = omega (arith, rest)

  pub order_append : (n : ℕ) (order : List ℕ) → keys n ≡ None → in_order keys ids (order ++ n ∷ []) ≡ in_order keys ids order
  order_append n [] none = rw none refl
  order_append n (m ∷ order) none = ap (with_present_entry (keys m) (ids m)) (order_append n order none)

  -- the length counts numbers with a key, wherever they are
  pub counted_without : (n : ℕ) (order : List ℕ) → is_listed n order ≡ true → length (with_present_entry (keys n) (ids n) (in_order keys ids (without n order))) ≡ length (in_order keys ids order)
  counted_without n [] there = absurd (false≢true there)
  counted_without n (m ∷ order) there = by_test (nat_eq n m) refl there (λ is. counted_without n order is)
    where
      swap : (a b : Option (List ℕ)) (entries : List (List ℕ × ℕ)) → length (with_present_entry a (ids n) (with_present_entry b (ids m) entries)) ≡ length (with_present_entry b (ids m) (with_present_entry a (ids n) entries))
      swap None b entries = refl
      swap (Some x) None entries = refl
      swap (Some x) (Some y) entries = refl

      longer : (o : Option (List ℕ)) (entries others : List (List ℕ × ℕ)) → length entries ≡ length others → length (with_present_entry o (ids m) entries) ≡ length (with_present_entry o (ids m) others)
      longer None entries others same = same
      longer (Some x) entries others same = ap suc same

      by_test : (t : Bool) → nat_eq n m ≡ t → cond t true (is_listed n order) ≡ true → (is_listed n order ≡ true → length (with_present_entry (keys n) (ids n) (in_order keys ids (without n order))) ≡ length (in_order keys ids order)) →
          length (with_present_entry (keys n) (ids n) (in_order keys ids (cond t order (m ∷ without n order)))) ≡ length (in_order keys ids (m ∷ order))
      by_test true here is rest = (let same : n ≡ m = eqb-true n m here in rw same refl)
      by_test false past is rest = swap (keys n) (keys m) (in_order keys ids (without n order)) ∙ longer (keys m) (with_present_entry (keys n) (ids n) (in_order keys ids (without n order))) (in_order keys ids order) (rest is)

  -- ---- numbers that have no key are last

  none_without : (n : ℕ) (order : List ℕ) → HaveNoKey keys order → HaveNoKey keys (without n order)
  none_without n [] none = tt
  none_without n (m ∷ order) none = by_test (nat_eq n m) (none_without n order none.1)
    where
      by_test : (t : Bool) → HaveNoKey keys (without n order) → HaveNoKey keys (cond t order (m ∷ without n order))
      by_test true rest = none.1
      by_test false rest = (none.0, rest)

  pub free_without : (n : ℕ) (order : List ℕ) → FreeAreLast keys order → FreeAreLast keys (without n order)
  free_without n [] free = tt
  free_without n (m ∷ order) free = by_test (nat_eq n m) (free_without n order free.1)
    where
      by_test : (t : Bool) → FreeAreLast keys (without n order) → FreeAreLast keys (cond t order (m ∷ without n order))
      by_test true rest = free.1
      by_test false rest = ((λ none. none_without n order (free.0 none)), rest)

  none_push : (n : ℕ) (order : List ℕ) → keys n ≡ None → HaveNoKey keys order → HaveNoKey keys (order ++ n ∷ [])
  none_push n [] is none = (is, tt)
  none_push n (m ∷ order) is none = (none.0, none_push n order is none.1)

  pub free_push : (n : ℕ) (order : List ℕ) → keys n ≡ None → FreeAreLast keys order → FreeAreLast keys (order ++ n ∷ [])
  free_push n [] is free = ((λ none. tt), tt)
  free_push n (m ∷ order) is free = ((λ none. none_push n order is (free.0 none)), free_push n order is free.1)

  pub free_of_none : (order : List ℕ) → ((m : ℕ) → keys m ≡ None) → FreeAreLast keys order
  free_of_none [] none = tt
  free_of_none (m ∷ order) none = ((λ is. all order), free_of_none order none)
    where
      all : (order : List ℕ) → HaveNoKey keys order
      all [] = tt
      all (m ∷ order) = (none m, all order)

  -- where fewer keys are there than numbers, the last number has none
  pub last_is_free : (order : List ℕ) (n : ℕ) → FreeAreLast keys order → length (in_order keys ids order) < length order → slice_get order (length order - 1) ≡ Some n → keys n ≡ None
  last_is_free order n free few last = go order (length order - 1) (omega arith) free few last
    where
      of_all : (order : List ℕ) (i : ℕ) → HaveNoKey keys order → slice_get order i ≡ Some n → keys n ≡ None
      of_all [] i none found = absurd (cc found)
      of_all (m ∷ order) zero none found = (let is : m ≡ n = cc found in rw (← is) none.0)
      of_all (m ∷ order) (suc i) none found = of_all order i none.1 found

      go : (order : List ℕ) (i : ℕ) → i + 1 ≡ length order → FreeAreLast keys order → length (in_order keys ids order) < length order → slice_get order i ≡ Some n → keys n ≡ None
      go [] i end free few found = absurd (cc found)
      go (m ∷ []) zero end free few found = (let is : m ≡ n = cc found in by_key (keys m) refl few is)
        where
          by_key : (o : Option (List ℕ)) → keys m ≡ o → length (with_present_entry o (ids m) []) < 1 → m ≡ n → keys n ≡ None
          by_key None none lt is = rw (← is) none
          by_key (Some key) some lt is = absurd (omega arith)
      go (m ∷ []) (suc i) end free few found = absurd (omega arith)
      go (m ∷ x ∷ order) zero end free few found = absurd (omega arith)
      go (m ∷ x ∷ order) (suc i) end free few found = by_key (keys m) refl few (λ fewer. go (x ∷ order) i (omega arith) free.1 fewer found)
        where
          by_key : (o : Option (List ℕ)) → keys m ≡ o → length (with_present_entry o (ids m) (in_order keys ids (x ∷ order))) < length (m ∷ x ∷ order) → (length (in_order keys ids (x ∷ order)) < length (x ∷ order) → keys n ≡ None) → keys n ≡ None
          by_key None none lt rest = of_all (x ∷ order) i (free.0 none) found
          by_key (Some key) some lt rest = rest (omega (arith, lt))

  -- where as many keys are there as numbers, each number has one
  pub full_has_key : (order : List ℕ) (n : ℕ) → length (in_order keys ids order) ≡ length order → is_listed n order ≡ true → (key : List ℕ) × (keys n ≡ Some key)
  full_has_key [] n full there = absurd (false≢true there)
  full_has_key (m ∷ order) n full there = by_key (keys m) refl full (λ same is. full_has_key order n same is)
    where
      by_key : (o : Option (List ℕ)) → keys m ≡ o → length (with_present_entry o (ids m) (in_order keys ids order)) ≡ length (m ∷ order) → (length (in_order keys ids order) ≡ length order → is_listed n order ≡ true → (key : List ℕ) × (keys n ≡ Some key)) → (key : List ℕ) × (keys n ≡ Some key)
      by_key None none same rest = absurd (let few = at_most order in omega (arith, few, same))
      by_key (Some key) some same rest = by_test (nat_eq n m) refl there
        where
          by_test : (t : Bool) → nat_eq n m ≡ t → cond t true (is_listed n order) ≡ true → (key : List ℕ) × (keys n ≡ Some key)
          by_test true here is = (let e : n ≡ m = eqb-true n m here in (key, rw e some))
          by_test false past is = rest (omega (arith, same)) is

  -- ---- where keys and numbers are inverse

  module _ (numbers : List ℕ → Option ℕ) (inverse : AreInverse numbers keys) where
    other_key : (q k : List ℕ) (n m : ℕ) → numbers q ≡ Some n → keys m ≡ Some k → nat_eq n m ≡ false → bytes_eq q k ≡ false
    other_key q k n m found has apart = elim (cases_Bool (bytes_eq q k)) [
      | inl same ↦ (let e : q ≡ k = same_key q k same in
          let number : numbers q ≡ Some m = (inverse q m).1 (has ∙ ap Some (sym e)) in
          let both : Some n ≡ Some m = sym found ∙ number in
          let is : n ≡ m = cc both in
          absurd (false≢true (sym apart ∙ eq-eqb n m is)))
      | inr differ ↦ differ
    ]

    absent_key : (q k : List ℕ) (m : ℕ) → numbers q ≡ None → keys m ≡ Some k → bytes_eq q k ≡ false
    absent_key q k m absent has = elim (cases_Bool (bytes_eq q k)) [
      | inl same ↦ (let e : q ≡ k = same_key q k same in
          let number : numbers q ≡ Some m = (inverse q m).1 (has ∙ ap Some (sym e)) in
          let both : None ≡ Some m = sym absent ∙ number in
          absurd (cc both))
      | inr differ ↦ differ
    ]

    -- the entry of a key is that of its number
    entry_there : (q : List ℕ) (n : ℕ) (order : List ℕ) → numbers q ≡ Some n → is_listed n order ≡ true → lookup_entry (bytes_eq q) (in_order keys ids order) ≡ Some (q, ids n)
    entry_there q n [] found there = absurd (false≢true there)
    entry_there q n (m ∷ order) found there = by_test (nat_eq n m) refl there (λ is. entry_there q n order found is)
      where
        by_key : (o : Option (List ℕ)) → keys m ≡ o → nat_eq n m ≡ false → lookup_entry (bytes_eq q) (in_order keys ids order) ≡ Some (q, ids n) → lookup_entry (bytes_eq q) (with_present_entry o (ids m) (in_order keys ids order)) ≡ Some (q, ids n)
        by_key None none apart rest = rest
        by_key (Some k) has apart rest = rw (other_key q k n m found has apart) rest

        by_test : (t : Bool) → nat_eq n m ≡ t → cond t true (is_listed n order) ≡ true → (is_listed n order ≡ true → lookup_entry (bytes_eq q) (in_order keys ids order) ≡ Some (q, ids n)) → lookup_entry (bytes_eq q) (in_order keys ids (m ∷ order)) ≡ Some (q, ids n)
        by_test true here is rest = (let e : n ≡ m = eqb-true n m here in
            let has : keys m ≡ Some q = (inverse q m).0 (found ∙ ap Some e) in
            rw (has, key_same q, e) refl)
        by_test false past is rest = by_key (keys m) refl past (rest is)

    pub cell_there : (q : List ℕ) (n : ℕ) (order : List ℕ) → numbers q ≡ Some n → is_listed n order ≡ true → lookup (bytes_eq q) (in_order keys ids order) ≡ Some (ids n)
    cell_there q n [] found there = absurd (false≢true there)
    cell_there q n (m ∷ order) found there = by_test (nat_eq n m) refl there (λ is. cell_there q n order found is)
      where
        by_key : (o : Option (List ℕ)) → keys m ≡ o → nat_eq n m ≡ false → lookup (bytes_eq q) (in_order keys ids order) ≡ Some (ids n) → lookup (bytes_eq q) (with_present_entry o (ids m) (in_order keys ids order)) ≡ Some (ids n)
        by_key None none apart rest = rest
        by_key (Some k) has apart rest = rw (other_key q k n m found has apart) rest

        by_test : (t : Bool) → nat_eq n m ≡ t → cond t true (is_listed n order) ≡ true → (is_listed n order ≡ true → lookup (bytes_eq q) (in_order keys ids order) ≡ Some (ids n)) → lookup (bytes_eq q) (in_order keys ids (m ∷ order)) ≡ Some (ids n)
        by_test true here is rest = (let e : n ≡ m = eqb-true n m here in
            let has : keys m ≡ Some q = (inverse q m).0 (found ∙ ap Some e) in
            rw (has, key_same q, e) refl)
        by_test false past is rest = by_key (keys m) refl past (rest is)

    entry_absent : (q : List ℕ) (order : List ℕ) → numbers q ≡ None → lookup_entry (bytes_eq q) (in_order keys ids order) ≡ None
    entry_absent q [] absent = refl
    entry_absent q (m ∷ order) absent = by_key (keys m) refl (entry_absent q order absent)
      where
        by_key : (o : Option (List ℕ)) → keys m ≡ o → lookup_entry (bytes_eq q) (in_order keys ids order) ≡ None → lookup_entry (bytes_eq q) (with_present_entry o (ids m) (in_order keys ids order)) ≡ None
        by_key None none rest = rest
        by_key (Some k) has rest = rw (absent_key q k m absent has) rest

    pub cell_absent : (q : List ℕ) (order : List ℕ) → numbers q ≡ None → lookup (bytes_eq q) (in_order keys ids order) ≡ None
    cell_absent q [] absent = refl
    cell_absent q (m ∷ order) absent = by_key (keys m) refl (cell_absent q order absent)
      where
        by_key : (o : Option (List ℕ)) → keys m ≡ o → lookup (bytes_eq q) (in_order keys ids order) ≡ None → lookup (bytes_eq q) (with_present_entry o (ids m) (in_order keys ids order)) ≡ None
        by_key None none rest = rest
        by_key (Some k) has rest = rw (absent_key q k m absent has) rest

    -- a key whose cell is not there has no number
    pub no_number : (q : List ℕ) (order : List ℕ) → ((n : ℕ) → numbers q ≡ Some n → is_listed n order ≡ true) → lookup (bytes_eq q) (in_order keys ids order) ≡ None → numbers q ≡ None
    no_number q order listed none = go (numbers q) refl
      where
        go : (o : Option ℕ) → numbers q ≡ o → numbers q ≡ None
        go None is = is
        go (Some n) is = (let clash : None ≡ Some (ids n) = sym none ∙ cell_there q n order is (listed n is) in absurd (cc clash))

    pub removed_there : (q : List ℕ) (n : ℕ) (order : List ℕ) → numbers q ≡ Some n → is_listed n order ≡ true → remove_entry (bytes_eq q) (in_order keys ids order) ≡ in_order keys ids (without n order)
    removed_there q n [] found there = absurd (false≢true there)
    removed_there q n (m ∷ order) found there = by_test (nat_eq n m) refl there (λ is. removed_there q n order found is)
      where
        by_key : (o : Option (List ℕ)) → keys m ≡ o → nat_eq n m ≡ false → remove_entry (bytes_eq q) (in_order keys ids order) ≡ in_order keys ids (without n order) → remove_entry (bytes_eq q) (with_present_entry o (ids m) (in_order keys ids order)) ≡ with_present_entry o (ids m) (in_order keys ids (without n order))
        by_key None none apart rest = rest
        by_key (Some k) has apart rest = rw (other_key q k n m found has apart) (ap (λ (es : List (List ℕ × ℕ)). (k, ids m) ∷ es) rest)

        by_test : (t : Bool) → nat_eq n m ≡ t → cond t true (is_listed n order) ≡ true → (is_listed n order ≡ true → remove_entry (bytes_eq q) (in_order keys ids order) ≡ in_order keys ids (without n order)) → remove_entry (bytes_eq q) (in_order keys ids (m ∷ order)) ≡ in_order keys ids (cond t order (m ∷ without n order))
        by_test true here is rest = (let e : n ≡ m = eqb-true n m here in
            let has : keys m ≡ Some q = (inverse q m).0 (found ∙ ap Some e) in
            rw (has, key_same q) refl)
        by_test false past is rest = by_key (keys m) refl past (rest is)

    pub removed_absent : (q : List ℕ) (order : List ℕ) → numbers q ≡ None → remove_entry (bytes_eq q) (in_order keys ids order) ≡ in_order keys ids order
    removed_absent q [] absent = refl
    removed_absent q (m ∷ order) absent = by_key (keys m) refl (removed_absent q order absent)
      where
        by_key : (o : Option (List ℕ)) → keys m ≡ o → remove_entry (bytes_eq q) (in_order keys ids order) ≡ in_order keys ids order → remove_entry (bytes_eq q) (with_present_entry o (ids m) (in_order keys ids order)) ≡ with_present_entry o (ids m) (in_order keys ids order)
        by_key None none rest = rest
        by_key (Some k) has rest = rw (absent_key q k m absent has) (ap (λ (es : List (List ℕ × ℕ)). (k, ids m) ∷ es) rest)

    -- ---- a use

    pub touched_there : (q : List ℕ) (n : ℕ) (order : List ℕ) → numbers q ≡ Some n → is_listed n order ≡ true → in_order keys ids (used n order) ≡ promoted (bytes_eq q) (in_order keys ids order)
    touched_there q n order found there =
        let has : keys n ≡ Some q = (inverse q n).0 found in
        rw (there, has, entry_there q n order found there, removed_there q n order found there) refl

    pub touched_absent : (q : List ℕ) (order : List ℕ) → numbers q ≡ None → in_order keys ids order ≡ promoted (bytes_eq q) (in_order keys ids order)
    touched_absent q order absent = rw (entry_absent q order absent) refl

    pub touched_free : (q : List ℕ) (n : ℕ) (order : List ℕ) → numbers q ≡ Some n → is_listed n order ≡ true → FreeAreLast keys order → FreeAreLast keys (used n order)
    touched_free q n order found there free = rw there ((λ none. (let has : keys n ≡ Some q = (inverse q n).0 found in let clash : None ≡ Some q = sym none ∙ has in absurd (cc clash))), free_without n order free)

    pub touched_count : (n : ℕ) (order : List ℕ) → is_listed n order ≡ true → length (in_order keys ids (used n order)) ≡ length (in_order keys ids order)
    touched_count n order there = rw there (counted_without n order there)

-- ---- the numbers below a count

pub countdown_length : (n : ℕ) → length (countdown n) ≡ n
countdown_length zero = refl
countdown_length (suc n) = ap suc (countdown_length n)

pub countdown_listed : (n m : ℕ) → m < n → is_listed m (countdown n) ≡ true
countdown_listed zero m lt = absurd (omega arith)
countdown_listed (suc n) m lt = by_test (nat_eq m n) refl (λ less. countdown_listed n m less)
  where
    by_test : (t : Bool) → nat_eq m n ≡ t → (m < n → is_listed m (countdown n) ≡ true) → cond t true (is_listed m (countdown n)) ≡ true
    by_test true here rest = refl
    by_test false past rest = (let apart : m ≢ n = λ same. false≢true (sym past ∙ eq-eqb m n same) in rest (omega (arith, apart)))

pub countdown_in_range : (n m : ℕ) → is_listed m (countdown n) ≡ true → m < n
countdown_in_range zero m there = absurd (false≢true there)
countdown_in_range (suc n) m there = by_test (nat_eq m n) refl there (λ is. countdown_in_range n m is)
  where
    by_test : (t : Bool) → nat_eq m n ≡ t → cond t true (is_listed m (countdown n)) ≡ true → (is_listed m (countdown n) ≡ true → m < n) → m < suc n
    by_test true here is rest = (let same : m ≡ n = eqb-true m n here in omega (arith, same))
    by_test false past is rest = (let less = rest is in omega (arith, less))
