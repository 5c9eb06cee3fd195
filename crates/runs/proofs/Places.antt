-- What is at a place of a list, as `get` of a slice finds it.
use Rattle.std.proofs.Common.{◌≡◌, ℕ, zero, suc, ◌<◌, List, [], ◌∷◌, length, get_or, sym, ap, subst, arith}
use Rattle.std.specs.Prelude.{Option, Some, None, slice_get}

module _ {A : Type 0} where
  -- where something is found, the list is longer, and an index gives it
  pub found_within : (xs : List A) (place : ℕ) (x : A) → slice_get xs place ≡ Some x → place < length xs
  found_within [] place x there = absurd (cc there)
  found_within (y ∷ xs) zero x there = omega arith
  found_within (y ∷ xs) (suc place) x there = (let rest = found_within xs place x there in omega (arith, rest))

  pub found_at : (xs : List A) (place : ℕ) (x d : A) → slice_get xs place ≡ Some x → x ≡ get_or xs place d
  found_at [] place x d there = absurd (cc there)
  found_at (y ∷ xs) zero x d there = sym (cc there)
  found_at (y ∷ xs) (suc place) x d there = found_at xs place x d there
