-- Sums over the parts of a capture.
use Rattle.std.proofs.Common.{◌≡◌, ℕ, zero, suc, ◌+◌, ◌<◌, ◌≤◌, Bool, true, false, cond, List, [], ◌∷◌, length, refl, sym, ap, ◌∙◌, arith}
use Rattle.std.specs.Prelude.{◌==◌, sum_by}
use Rattle.std.proofs.lemmas.Bool.{cases_eq, eq-eqb, ne_eqb}
use Rattle.std.proofs.lemmas.List.Sums.{sum_by-cons}
use mathlib.Core.Logic.{⊎_elim}
use Rattle.fleet.specs.Parts.{filter_at}
use Rattle.fleet.specs.PartLaws.{sum_over_parts}

over_none : (parts : ℕ) → sum_over_parts (λ number. 0) parts ≡ 0
over_none zero = refl
over_none (suc parts) = omega (arith, over_none parts)

over_same : (these those : ℕ → ℕ) (parts : ℕ) → ((number : ℕ) → these number ≡ those number) → sum_over_parts these parts ≡ sum_over_parts those parts
over_same these those zero each = refl
over_same these those (suc parts) each =
    let rest = over_same these those parts each in
    let last = each parts in
    omega (arith, rest, last)

over_both : (these those : ℕ → ℕ) (parts : ℕ)
    → sum_over_parts (λ number. these number + those number) parts ≡ sum_over_parts these parts + sum_over_parts those parts
over_both these those zero = refl
over_both these those (suc parts) = let rest = over_both these those parts in omega (arith, rest)

-- what only one part has, which is none of these
over_others : (one value parts : ℕ) → parts ≤ one → sum_over_parts (λ number. cond (one == number) value 0) parts ≡ 0
over_others one value zero le = refl
over_others one value (suc parts) le =
    let rest = over_others one value parts (omega (arith, le)) in
    let last : cond (one == parts) value 0 ≡ 0 = ap (λ b. cond b value 0) (ne_eqb one parts (λ same. omega (arith, same, le))) in
    omega (arith, rest, last)

-- or one of these
over_one : (one value parts : ℕ) → one < parts → sum_over_parts (λ number. cond (one == number) value 0) parts ≡ value
over_one one value zero lt = absurd (omega (arith, lt))
over_one one value (suc parts) lt = ⊎_elim here (λ other. before other (over_one one value parts (omega (arith, other, lt)))) (cases_eq one parts) where
  here : one ≡ parts → sum_over_parts (λ number. cond (one == number) value 0) (suc parts) ≡ value
  here same =
      let rest = over_others one value parts (omega (arith, same)) in
      let last : cond (one == parts) value 0 ≡ value = ap (λ b. cond b value 0) (eq-eqb one parts same) in
      omega (arith, rest, last)

  before : (one ≡ parts → ⊥) → sum_over_parts (λ number. cond (one == number) value 0) parts ≡ value
      → sum_over_parts (λ number. cond (one == number) value 0) (suc parts) ≡ value
  before other rest =
      let last : cond (one == parts) value 0 ≡ 0 = ap (λ b. cond b value 0) (ne_eqb one parts other) in
      omega (arith, rest, last)

module _ {X : Type 0} (figure : X → ℕ) where
  by : (b : Bool) (x : X) (xs : List X) → sum_by figure (cond b (x ∷ xs) xs) ≡ cond b (figure x) 0 + sum_by figure xs
  by true x xs = sum_by-cons figure x xs
  by false x xs = omega arith

  -- the sum over all is that of the sums over those with one label each
  pub over_labels : (label : ℕ → X → ℕ) (parts : ℕ) → ((place : ℕ) (x : X) → label place x < parts) → (xs : List X)
      → sum_over_parts (λ number. sum_by figure (filter_at (λ place x. label place x == number) xs)) parts ≡ sum_by figure xs
  over_labels label parts below [] = over_none parts
  over_labels label parts below (x ∷ xs) =
      over_same (λ number. sum_by figure (filter_at (λ place y. label place y == number) (x ∷ xs)))
      (λ number. cond (label 0 x == number) (figure x) 0 + sum_by figure (filter_at (λ place y. label (suc place) y == number) xs)) parts
      (λ number. by (label 0 x == number) x (filter_at (λ place y. label (suc place) y == number) xs))
      ∙ over_both (λ number. cond (label 0 x == number) (figure x) 0) (λ number. sum_by figure (filter_at (λ place y. label (suc place) y == number) xs))
      parts
      ∙ ap (λ n. n + sum_over_parts (λ number. sum_by figure (filter_at (λ place y. label (suc place) y == number) xs)) parts)
      (over_one (label 0 x) (figure x) parts (below 0 x))
      ∙ ap (λ n. figure x + n) (over_labels (λ place. label (suc place)) parts (λ place. below (suc place)) xs)
      ∙ sym (sum_by-cons figure x xs)

-- a length is a sum
length_is_sum : {X : Type 0} (xs : List X) → length xs ≡ sum_by (λ x. 1) xs
length_is_sum [] = refl
length_is_sum (x ∷ xs) = let rest = length_is_sum xs in let one = sum_by-cons (λ y. 1) x xs in omega (arith, rest, one)

pub over_lengths : {X : Type 0} (label : ℕ → X → ℕ) (parts : ℕ) → ((place : ℕ) (x : X) → label place x < parts) → (xs : List X)
    → sum_over_parts (λ number. length (filter_at (λ place x. label place x == number) xs)) parts ≡ length xs
over_lengths label parts below xs =
    over_same (λ number. length (filter_at (λ place x. label place x == number) xs))
    (λ number. sum_by (λ x. 1) (filter_at (λ place x. label place x == number) xs)) parts
    (λ number. length_is_sum (filter_at (λ place x. label place x == number) xs))
    ∙ over_labels (λ x. 1) label parts below xs
    ∙ sym (length_is_sum xs)
