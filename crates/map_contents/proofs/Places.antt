-- What is at a place of a list, as `get` of a slice finds it.
use Rattle.std.proofs.Common.{◌≡◌, ◌≢◌, ◌⊎◌, ℕ, zero, suc, ◌<◌, List, [], ◌∷◌, length, inl, inr, refl, sym, ap, subst, ⊎_elim, arith}
use Rattle.std.specs.Prelude.{Option, Some, None, slice_get, slice_set}

module _ {A : Type 0} where
  is_some_member : Option A → Type 0
  is_some_member (Some x) = Unit {0}
  is_some_member None = ⊥

  none_is : (x : A) → None ≡ Some x → ⊥
  unfolding is_some_member
  none_is x same = subst is_some_member (sym same) tt

  same_member : (x y : A) → Some x ≡ Some y → x ≡ y
  same_member x y same = ap (λ (o : Option A). or_first o) same where
    or_first : Option A → A
    or_first (Some z) = z
    or_first None = x

  -- where something is found, the list is longer
  pub found_within : (xs : List A) (place : ℕ) (x : A) → slice_get xs place ≡ Some x → place < length xs
  found_within [] place x there = absurd (none_is x there)
  found_within (y ∷ xs) zero x there = omega arith
  found_within (y ∷ xs) (suc place) x there = (let rest = found_within xs place x there in omega (arith, rest))

  -- once another one is at a place
  pub found_set : (xs : List A) (place other : ℕ) (new x : A) → slice_get (slice_set xs place new) other ≡ Some x
      → ((other ≡ place) × (new ≡ x)) ⊎ ((other ≢ place) × (slice_get xs other ≡ Some x))
  found_set [] place other new x there = absurd (none_is x there)
  found_set (y ∷ xs) zero zero new x there = inl (refl, same_member new x there)
  found_set (y ∷ xs) zero (suc other) new x there = inr ((λ h. omega arith), there)
  found_set (y ∷ xs) (suc place) zero new x there = inr ((λ h. omega arith), there)
  found_set (y ∷ xs) (suc place) (suc other) new x there =
      ⊎_elim (λ t. inl (ap suc t.0, t.1)) (λ t. let n = t.0 in inr ((λ h. n (omega arith)), t.1)) (found_set xs place other new x there)

  pub count_set : (xs : List A) (place : ℕ) (new : A) → length (slice_set xs place new) ≡ length xs
  count_set [] place new = refl
  count_set (y ∷ xs) zero new = refl
  count_set (y ∷ xs) (suc place) new = ap suc (count_set xs place new)
