-- What one more record does to the counts of changes.
use Rattle.std.proofs.Common.{◌≡◌, ℕ, ◌+◌, ◌<◌, ◌≤◌, Bool, true, false, cond, List, [], ◌∷◌, length, take, Some, String, BTreeMap, sym, refl, ap, ◌∙◌, subst, arith, get_or, unwrap_or, add-one}
use Rattle.std.specs.BTreeMap.{get_by_text}
use Rattle.std.specs.Map.{update}
use Rattle.std.specs.Str.{bytes_eq}
use Rattle.std.specs.Cmp.Lexicographic.{bytes_decides, nat_list_eq_equiv}
use Rattle.std.specs.Prelude.{count_by, fold, if◌then◌else◌, zero, suc}
use Rattle.comparison.specs.Changes.{change_at}
use Rattle.comparison.specs.Kinds.{HasNoZero, HasOneMore, count_of, how_many_changed, one_if_same}

module _ {Y : Type 0} {old new : BTreeMap (String Y) ℕ} {change : List ℕ} where
  -- setting a change's count to one more; each fact is proved by cases on whether the other change is this one
  pub one_more_from_set : HasNoZero old
      → ((other : List ℕ) → get_by_text new other ≡ update bytes_eq (get_by_text old) change (Some (count_of old change + 1)) other)
      → HasOneMore old new change
  one_more_from_set sound sets = record {
    no_zero = λ v. subst (λ o. 0 < unwrap_or o 1) (sym (sets v)) (nonzero v (bytes_eq change v));
    counts = λ v. ap (λ o. unwrap_or o 0) (sets v) ∙ new_count v (bytes_eq change v) refl;
  }
    where
      nonzero : (v : List ℕ) (b : Bool) → 0 < unwrap_or (cond b (Some (count_of old change + 1)) (get_by_text old v)) 1
      nonzero v true = omega arith
      nonzero v false = sound v

      new_count : (v : List ℕ) (b : Bool) → bytes_eq change v ≡ b
          → unwrap_or (cond (bytes_eq change v) (Some (count_of old change + 1)) (get_by_text old v)) 0 ≡ count_of old v + one_if_same v change
      new_count v true same = rw (nat_list_eq_equiv.symm v change, same) (ap (λ u. count_of old u + 1) ((bytes_decides change v).0 same))
      new_count v false differs = rw (nat_list_eq_equiv.symm v change, differs) (omega arith)

-- what is gathered from one member more
fold_next : {A B : Type 0} (f : B → A → B) (b : B) (xs : List A) (index : ℕ) (d : A) → index < length xs
    → fold f b (take (suc index) xs) ≡ f (fold f b (take index xs)) (get_or xs index d)
fold_next f b [] index d inside = absurd (omega arith)
fold_next f b (x ∷ xs) zero d inside = refl
fold_next f b (x ∷ xs) (suc index) d inside = fold_next f (f b x) xs index d (omega arith)

count_next : {A : Type 0} (f : A → Bool) (xs : List A) (index : ℕ) (d : A) → index < length xs
    → count_by f (take (index + 1) xs) ≡ count_by f (take index xs) + (if f (get_or xs index d) then 1 else 0)
count_next f xs index d inside =
    ap (λ (n : ℕ). count_by f (take n xs)) (add-one index) ∙ fold_next (λ a x. a + cond (f x) 1 0) 0 xs index d inside

one_at_most : (test : Bool) → (if test then 1 else 0) ≤ 1
one_at_most true = omega arith
one_at_most false = omega arith

-- the table counts the records at the first N places
abbrev pub AreCounted : {Y : Type 0} → List (List ℕ) → List (List ℕ) → List ℕ → BTreeMap (String Y) ℕ → ℕ → Type 0
AreCounted first second places table index =
    HasNoZero table × ((change : List ℕ) →
    (count_of table change ≡ how_many_changed first second change (take index places)) × (count_of table change ≤ index))

module _ {Y : Type 0} (first second : List (List ℕ)) (places : List ℕ) (old new : BTreeMap (String Y) ℕ) where
  -- one record more
  pub next_counts : (index d : ℕ) (text : List ℕ) → index < length places → text ≡ change_at first second (get_or places index d)
      → HasOneMore old new text → AreCounted first second places old index → AreCounted first second places new (index + 1)
  next_counts index d text inside text_is more before = (
    more.no_zero,
    λ change.
        let next = count_next (λ place. bytes_eq change (change_at first second place)) places index d inside in
        let here : one_if_same change text ≡ one_if_same change (change_at first second (get_or places index d)) =
        ap (λ (it : List ℕ). one_if_same change it) text_is in
        let small : one_if_same change text ≤ 1 = one_at_most (bytes_eq change text) in
        let was = before.1 change in
        (omega (arith, more.counts change, was.0, next, here), omega (arith, more.counts change, was.1, small)),
  )
