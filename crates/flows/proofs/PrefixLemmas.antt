-- Where the elements end that pass a test from the first on.
use Rattle.std.proofs.Common.{◌≡◌, ℕ, zero, suc, ◌+◌, ◌≤◌, Bool, true, false, List, [], ◌∷◌, Option, Some, None, refl, arith}
use Rattle.std.specs.List.{prefix_len, slice_get}

-- whether there is an element, and it passes
abbrev pub passes : {X : Type 0} → (X → Bool) → Option X → Bool
passes p None = false
passes p (Some x) = p x

module _ {X : Type 0} (p : X → Bool) where
  -- an element that passes behind others that do is one of them
  pub prefix_more : (xs : List X) (i : ℕ) → i ≤ prefix_len p xs → passes p (slice_get xs i) ≡ true → i + 1 ≤ prefix_len p xs
  prefix_more [] i within is = cc
  prefix_more (x ∷ xs) zero within is = rw is (omega arith)
  prefix_more (x ∷ xs) (suc i) within is = by_test (p x) refl (λ inner. prefix_more xs i inner is) where
    by_test : (test : Bool) → p x ≡ test → (i ≤ prefix_len p xs → i + 1 ≤ prefix_len p xs) → suc i + 1 ≤ prefix_len p (x ∷ xs)
    by_test true first later =
        let inner : suc i ≤ 1 + prefix_len p xs = rw first at within in
        let next : i + 1 ≤ prefix_len p xs = later (omega (arith, inner)) in
        rw first (omega (arith, next))
    by_test false first later = let none : suc i ≤ 0 = rw first at within in absurd (omega (arith, none))

  -- behind them comes none that passes
  pub prefix_end : (xs : List X) (i : ℕ) → i ≤ prefix_len p xs → passes p (slice_get xs i) ≡ false → i ≡ prefix_len p xs
  prefix_end [] i within is = omega (arith, within)
  prefix_end (x ∷ xs) zero within is = rw is refl
  prefix_end (x ∷ xs) (suc i) within is = by_test (p x) refl (λ inner. prefix_end xs i inner is) where
    by_test : (test : Bool) → p x ≡ test → (i ≤ prefix_len p xs → i ≡ prefix_len p xs) → suc i ≡ prefix_len p (x ∷ xs)
    by_test true first later =
        let inner : suc i ≤ 1 + prefix_len p xs = rw first at within in
        let next : i ≡ prefix_len p xs = later (omega (arith, inner)) in
        rw first (omega (arith, next))
    by_test false first later = let none : suc i ≤ 0 = rw first at within in absurd (omega (arith, none))

-- what passes a test that passes more is as far
pub prefix_wider : {X : Type 0} (p q : X → Bool) → ((x : X) → p x ≡ true → q x ≡ true) → (xs : List X) → prefix_len p xs ≤ prefix_len q xs
prefix_wider p q wider [] = omega arith
prefix_wider p q wider (x ∷ xs) = by_test (p x) refl (prefix_wider p q wider xs) where
  by_test : (test : Bool) → p x ≡ test → prefix_len p xs ≤ prefix_len q xs → prefix_len p (x ∷ xs) ≤ prefix_len q (x ∷ xs)
  by_test true is more = rw (is, wider x is) (omega (arith, more))
  by_test false is more = rw is (omega arith)
