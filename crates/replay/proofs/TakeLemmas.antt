-- The last rights to take, away from the others.
use Rattle.std.proofs.Common.{◌≡◌, ℕ, zero, suc, List, [], ◌∷◌, length, sym, ap, arith}
use Rattle.std.specs.Prelude.{remove}
use mathlib.Core.Option.{some, some-ne-none}
use lib.ListN.{get_elem?}

module _ {A : Type 0} where
  pub removed_count : (l : List A) (last : ℕ) → length l ≡ suc last → length (remove l last) ≡ last
  removed_count [] last count = absurd (omega (arith, count))
  removed_count (x ∷ xs) zero count = omega (arith, count)
  removed_count (x ∷ xs) (suc last) count = ap suc (removed_count xs last (omega (arith, count)))

  -- what is left is where it was
  pub kept_before : (l : List A) (last place : ℕ) (x : A) → length l ≡ suc last → get_elem? (remove l last) place ≡ some x → get_elem? l place ≡ some x
  kept_before [] last place x count there = absurd (omega (arith, count))
  kept_before (y ∷ []) zero place x count there = absurd (some-ne-none x (sym there))
  kept_before (y ∷ z ∷ ys) zero place x count there = absurd (omega (arith, count))
  kept_before (y ∷ ys) (suc last) zero x count there = there
  kept_before (y ∷ ys) (suc last) (suc place) x count there = kept_before ys last place x (omega (arith, count)) there
