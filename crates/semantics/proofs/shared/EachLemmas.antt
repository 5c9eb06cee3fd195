-- What a fact of each member of a list becomes when the list changes, and what is at a place.
use Rattle.std.proofs.Common.{◌≡◌, ◌≢◌, ◌⊎◌, ℕ, zero, suc, ◌+◌, ◌<◌, ◌≤◌, List, [], ◌∷◌, ◌++◌, length, set, get_or, refl, sym, ap, subst, inl, inr, ⊎_elim, arith}
use Rattle.std.specs.Prelude.{remove, Some, slice_get}
use mathlib.Core.Option.{some, some-injective, some-ne-none}
use lib.ListN.{get_elem?}
use Rattle.semantics.specs.Each.{Each}

module _ {A : Type 0} where
  -- a list that has another member at one place, or one more at its end
  pub at_set : (l : List A) (i j : ℕ) (a b : A) → get_elem? (set l i a) j ≡ some b → ((j ≡ i) × (a ≡ b)) ⊎ ((j ≢ i) × (get_elem? l j ≡ some b))
  at_set [] i j a b e = absurd (some-ne-none b (sym e))
  at_set (x ∷ xs) zero zero a b e = inl (refl, some-injective a b e)
  at_set (x ∷ xs) zero (suc j) a b e = inr ((λ h. omega arith), e)
  at_set (x ∷ xs) (suc i) zero a b e = inr ((λ h. omega arith), e)
  at_set (x ∷ xs) (suc i) (suc j) a b e = ⊎_elim (λ t. inl (ap suc t.0, t.1)) (λ t. let n = t.0 in inr ((λ h. n (omega arith)), t.1)) (at_set xs i j a b e)

  pub at_index : (l : List A) (i : ℕ) (a : A) → i < length l → a ≡ get_or l i a → get_elem? l i ≡ some a
  at_index [] i a h e = absurd (omega arith)
  at_index (x ∷ xs) zero a h e = ap some (sym e)
  at_index (x ∷ xs) (suc i) a h e = at_index xs i a (omega arith) e

  pub at_snoc : (l : List A) (a b : A) (j : ℕ) → get_elem? (l ++ a ∷ []) j ≡ some b → (get_elem? l j ≡ some b) ⊎ ((j ≡ length l) × (a ≡ b))
  at_snoc [] a b zero e = inr (refl, some-injective a b e)
  at_snoc [] a b (suc j) e = absurd (some-ne-none b (sym e))
  at_snoc (x ∷ xs) a b zero e = inl e
  at_snoc (x ∷ xs) a b (suc j) e = ⊎_elim inl (λ t. inr (ap suc t.0, t.1)) (at_snoc xs a b j e)

  at_rest : (l : List A) (j : ℕ) (b : A) → get_elem? (remove l 0) j ≡ some b → get_elem? l (suc j) ≡ some b
  at_rest [] j b e = absurd (some-ne-none b (sym e))
  at_rest (x ∷ xs) j b e = e

  pub each_push : (P : ℕ → A → Type 0) (xs : List A) (k : ℕ) (x : A) → length xs ≡ k → Each P 0 xs → P k x → Each P 0 (xs ++ x ∷ [])
  each_push P xs k x len were is j b e =
      ⊎_elim (λ was. were j b was) (λ (t : (j ≡ length xs) × (x ≡ b)). let here : k ≡ 0 + j = (let a = t.0 in omega arith) in subst (λ (y : ℕ × A). P y.0 y.1) (λ i. (here i, t.1 i)) is) (at_snoc xs x b j e)

  pub each_first : (P : ℕ → A → Type 0) (from : ℕ) (xs : List A) (x : A) → Each P from xs → 0 < length xs → x ≡ get_or xs 0 x → P from x
  each_first P from xs x were some_left is = subst (λ n. P n x) (omega arith) (were 0 x (at_index xs 0 x some_left is))

  pub each_rest : (P : ℕ → A → Type 0) (from : ℕ) (xs : List A) → Each P from xs → Each P (from + 1) (remove xs 0)
  each_rest P from xs were j b e = subst (λ n. P n b) (omega arith) (were (suc j) b (at_rest xs j b e))

  pub each_at : (P : ℕ → A → Type 0) (xs : List A) (k : ℕ) (x : A) → Each P 0 xs → k < length xs → x ≡ get_or xs k x → P k x
  each_at P xs k x were there is = subst (λ n. P n x) (omega arith) (were k x (at_index xs k x there is))

  pub each_set : (P Q : ℕ → A → Type 0) (xs : List A) (k : ℕ) (x : A) → Each P 0 xs → ((j : ℕ) (y : A) → j ≢ k → P j y → Q j y) → Q k x → Each Q 0 (set xs k x)
  each_set P Q xs k x were others is j b e =
      ⊎_elim (λ (t : (j ≡ k) × (x ≡ b)). let here : k ≡ 0 + j = (let a = t.0 in omega arith) in subst (λ (y : ℕ × A). Q y.0 y.1) (λ i. (here i, t.1 i)) is)
      (λ (t : (j ≢ k) × (get_elem? xs j ≡ some b)). others (0 + j) b (λ h. t.0 (omega arith)) (were j b t.1)) (at_set xs k j x b e)

  -- what is at a place, whatever is past the end
  pub at_or : (xs : List A) (j : ℕ) (x d : A) → get_elem? xs j ≡ some x → x ≡ get_or xs j d
  at_or [] j x d e = absurd (some-ne-none x (sym e))
  at_or (y ∷ xs) zero x d e = sym (some-injective y x e)
  at_or (y ∷ xs) (suc j) x d e = at_or xs j x d e

  -- where it is, the list is longer
  pub within : (xs : List A) (j : ℕ) (x : A) → get_elem? xs j ≡ some x → j < length xs
  within [] j x e = absurd (some-ne-none x (sym e))
  within (y ∷ xs) zero x e = omega arith
  within (y ∷ xs) (suc j) x e = (let rest = within xs j x e in omega (arith, rest))

  pub each_none : (P : ℕ → A → Type 0) (from : ℕ) → Each P from []
  each_none P from j x e = absurd (some-ne-none x (sym e))

  -- places counted from 0
  pub each_start : (P : ℕ → A → Type 0) (xs : List A) → ((j : ℕ) (x : A) → get_elem? xs j ≡ some x → P j x) → Each P 0 xs
  each_start P xs were j x there = subst (λ n. P n x) (omega arith) (were j x there)

  -- a fact of each follows from another
  pub each_map : (P Q : ℕ → A → Type 0) (from : ℕ) (xs : List A) → ((j : ℕ) (x : A) → P j x → Q j x) → Each P from xs → Each Q from xs
  each_map P Q from xs follows were j x there = follows (from + j) x (were j x there)

  -- what is at a place once one member is another, or one more is behind
  pub or_set_here : (xs : List A) (place : ℕ) (x d : A) → place < length xs → get_or (set xs place x) place d ≡ x
  or_set_here [] place x d below = absurd (omega arith)
  or_set_here (y ∷ xs) zero x d below = refl
  or_set_here (y ∷ xs) (suc place) x d below = or_set_here xs place x d (omega arith)

  pub or_set_else : (xs : List A) (place other : ℕ) (x d : A) → other ≢ place → get_or (set xs place x) other d ≡ get_or xs other d
  or_set_else [] place other x d apart = refl
  or_set_else (y ∷ xs) zero zero x d apart = absurd (apart refl)
  or_set_else (y ∷ xs) zero (suc other) x d apart = refl
  or_set_else (y ∷ xs) (suc place) zero x d apart = refl
  or_set_else (y ∷ xs) (suc place) (suc other) x d apart = or_set_else xs place other x d (λ same. apart (ap suc same))

  pub set_count : (xs : List A) (place : ℕ) (x : A) → length (set xs place x) ≡ length xs
  set_count [] place x = refl
  set_count (y ∷ xs) zero x = refl
  set_count (y ∷ xs) (suc place) x = ap suc (set_count xs place x)

  pub or_push_else : (xs : List A) (x d : A) (place : ℕ) → place < length xs → get_or (xs ++ x ∷ []) place d ≡ get_or xs place d
  or_push_else [] x d place below = absurd (omega arith)
  or_push_else (y ∷ xs) x d zero below = refl
  or_push_else (y ∷ xs) x d (suc place) below = or_push_else xs x d place (omega arith)

  pub or_push_here : (xs : List A) (x d : A) (place : ℕ) → length xs ≡ place → get_or (xs ++ x ∷ []) place d ≡ x
  or_push_here [] x d zero is = refl
  or_push_here [] x d (suc place) is = absurd (omega (arith, is))
  or_push_here (y ∷ xs) x d zero is = absurd (omega (arith, is))
  or_push_here (y ∷ xs) x d (suc place) is = or_push_here xs x d place (omega (arith, is))

  -- past the end there is what represents nothing
  pub or_past : (xs : List A) (d : A) (place : ℕ) → length xs ≤ place → get_or xs place d ≡ d
  or_past [] d place past = refl
  or_past (y ∷ xs) d zero past = absurd (omega arith)
  or_past (y ∷ xs) d (suc place) past = or_past xs d place (omega arith)

  -- within the list it does not matter what represents nothing
  pub or_within : (xs : List A) (d e : A) (place : ℕ) → place < length xs → get_or xs place d ≡ get_or xs place e
  or_within [] d e place below = absurd (omega arith)
  or_within (y ∷ xs) d e zero below = refl
  or_within (y ∷ xs) d e (suc place) below = or_within xs d e place (omega arith)

  -- what is found within a list, whatever is past the end
  pub found_or : (xs : List A) (place : ℕ) (x d : A) → place < length xs → x ≡ get_or xs place x → x ≡ get_or xs place d
  found_or [] place x d below is = absurd (omega arith)
  found_or (y ∷ xs) zero x d below is = is
  found_or (y ∷ xs) (suc place) x d below is = found_or xs place x d (omega arith) is

  -- what an index returns, `get` would give
  pub got_there : (xs : List A) (place : ℕ) (x : A) → place < length xs → x ≡ get_or xs place x → slice_get xs place ≡ Some x
  got_there [] place x below is = absurd (omega arith)
  got_there (y ∷ xs) zero x below is = ap Some (sym is)
  got_there (y ∷ xs) (suc place) x below is = got_there xs place x (omega arith) is
