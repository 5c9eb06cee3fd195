-- The records of a part, and how many of them come before a place of the capture.
use Rattle.std.proofs.Common.{◌≡◌, ℕ, zero, suc, ◌+◌, ◌<◌, ◌≤◌, Bool, true, false, cond, List, [], ◌∷◌, ◌++◌, length, take, Option, Some, refl, sym, ap, ◌∙◌, arith, add-suc, add-zero}
use Rattle.std.specs.Prelude.{slice_get}
use Rattle.std.proofs.lemmas.Bool.{true≢false}
use Rattle.std.proofs.lemmas.List.{take-append-le, take_all}
use Rattle.std.proofs.lemmas.Option.{none-some, same_Some}
use Rattle.wire.specs.declared.records.Sent.{Sent}
use Rattle.fleet.specs.declared.part.Loss.{Loss}
use Rattle.fleet.specs.Parts.{filter_at, is_in_part, number_in_part, records_behind, records_of_part}

module _ {X : Type 0} where
  one_found : (b : Bool) (y x : X) (us vs : List X) → slice_get us (length vs) ≡ Some x → slice_get (cond b (y ∷ us) us) (length (cond b (y ∷ vs) vs)) ≡ Some x
  one_found true y x us vs e = e
  one_found false y x us vs e = e

  first_found : (b : Bool) (y x : X) (us : List X) → b ≡ true → Some y ≡ Some x → slice_get (cond b (y ∷ us) us) 0 ≡ Some x
  first_found true y x us holds e = e
  first_found false y x us holds e = absurd (true≢false (sym holds))

  -- what passes is kept, behind as many as pass before it
  pub found : (p : ℕ → X → Bool) (xs : List X) (place : ℕ) (x : X) → slice_get xs place ≡ Some x → p place x ≡ true
      → slice_get (filter_at p xs) (length (filter_at p (take place xs))) ≡ Some x
  found p [] place x e holds = absurd (none-some x e)
  found p (y ∷ ys) zero x e holds = first_found (p 0 y) y x (filter_at (λ n. p (suc n)) ys) (ap (p 0) (same_Some y x e) ∙ holds) e
  found p (y ∷ ys) (suc place) x e holds =
      one_found (p 0 y) y x (filter_at (λ n. p (suc n)) ys) (filter_at (λ n. p (suc n)) (take place ys)) (found (λ n. p (suc n)) ys place x e holds)

  -- what is kept is at a place before which as many pass
  pub placed : (p : ℕ → X → Bool) (xs : List X) (behind : ℕ) (x : X) → slice_get (filter_at p xs) behind ≡ Some x
      → (place : ℕ) × (slice_get xs place ≡ Some x) × (p place x ≡ true) × (length (filter_at p (take place xs)) ≡ behind)
  placed p [] behind x e = absurd (none-some x e)
  placed p (y ∷ ys) behind x e = by (p 0 y) refl behind e (λ earlier at. placed (λ n. p (suc n)) ys earlier x at) where
    by : (b : Bool) → p 0 y ≡ b → (behind : ℕ) → slice_get (cond b (y ∷ filter_at (λ n. p (suc n)) ys) (filter_at (λ n. p (suc n)) ys)) behind ≡ Some x
        → ((earlier : ℕ) → slice_get (filter_at (λ n. p (suc n)) ys) earlier ≡ Some x
        → (place : ℕ) × (slice_get ys place ≡ Some x) × (p (suc place) x ≡ true) × (length (filter_at (λ n. p (suc n)) (take place ys)) ≡ earlier))
        → (place : ℕ) × (slice_get (y ∷ ys) place ≡ Some x) × (p place x ≡ true) × (length (filter_at p (take place (y ∷ ys))) ≡ behind)
    by true is zero e rest = (0, e, ap (p 0) (sym (same_Some y x e)) ∙ is, refl)
    by true is (suc behind) e rest =
        let later = rest behind e in (
          suc later.0,
          later.1,
          later.2,
          ap (λ b. length (cond b (y ∷ filter_at (λ n. p (suc n)) (take later.0 ys)) (filter_at (λ n. p (suc n)) (take later.0 ys)))) is
              ∙ ap suc later.3,
        )
    by false is behind e rest =
        let later = rest behind e in (
          suc later.0,
          later.1,
          later.2,
          ap (λ b. length (cond b (y ∷ filter_at (λ n. p (suc n)) (take later.0 ys)) (filter_at (λ n. p (suc n)) (take later.0 ys)))) is
              ∙ later.3,
        )

  more_below : (b : Bool) (y : X) (us vs : List X) → length us < length vs → length (cond b (y ∷ us) us) < length (cond b (y ∷ vs) vs)
  more_below true y us vs lt = omega (arith, lt)
  more_below false y us vs lt = lt

  more_at_most : (b : Bool) (y : X) (us vs : List X) → length us ≤ length vs → length (cond b (y ∷ us) us) ≤ length (cond b (y ∷ vs) vs)
  more_at_most true y us vs le = omega (arith, le)
  more_at_most false y us vs le = le

  one_more : (b : Bool) (y : X) (us : List X) → b ≡ true → 0 < length (cond b (y ∷ us) us)
  one_more true y us holds = omega arith
  one_more false y us holds = absurd (true≢false (sym holds))

  at_most_one : (b : Bool) (y : X) (us : List X) → length (cond b (y ∷ us) us) ≤ suc (length us)
  at_most_one true y us = omega arith
  at_most_one false y us = omega arith

  -- before a later place pass more, if what is at this one passes
  pub rises : (p : ℕ → X → Bool) (xs : List X) (place later : ℕ) (x : X) → slice_get xs place ≡ Some x → p place x ≡ true → place < later
      → length (filter_at p (take place xs)) < length (filter_at p (take later xs))
  rises p [] place later x e holds lt = absurd (none-some x e)
  rises p (y ∷ ys) place zero x e holds lt = absurd (omega (arith, lt))
  rises p (y ∷ ys) zero (suc later) x e holds lt =
      one_more (p 0 y) y (filter_at (λ n. p (suc n)) (take later ys)) (ap (p 0) (same_Some y x e) ∙ holds)
  rises p (y ∷ ys) (suc place) (suc later) x e holds lt =
      more_below (p 0 y) y (filter_at (λ n. p (suc n)) (take place ys)) (filter_at (λ n. p (suc n)) (take later ys))
      (rises (λ n. p (suc n)) ys place later x e holds (omega (arith, lt)))

  -- before a later place pass no fewer
  pub never_fewer : (p : ℕ → X → Bool) (xs : List X) (place later : ℕ) → place ≤ later
      → length (filter_at p (take place xs)) ≤ length (filter_at p (take later xs))
  never_fewer p xs zero later le = omega arith
  never_fewer p xs (suc place) zero le = absurd (omega (arith, le))
  never_fewer p [] (suc place) (suc later) le = omega arith
  never_fewer p (y ∷ ys) (suc place) (suc later) le =
      more_at_most (p 0 y) y (filter_at (λ n. p (suc n)) (take place ys)) (filter_at (λ n. p (suc n)) (take later ys))
      (never_fewer (λ n. p (suc n)) ys place later (omega (arith, le)))

  -- and no more than there are
  pub few_pass : (p : ℕ → X → Bool) (xs : List X) (place : ℕ) → length (filter_at p (take place xs)) ≤ place
  few_pass p xs zero = omega arith
  few_pass p [] (suc place) = omega arith
  few_pass p (y ∷ ys) (suc place) =
      let one = at_most_one (p 0 y) y (filter_at (λ n. p (suc n)) (take place ys)) in
      let rest = few_pass (λ n. p (suc n)) ys place in
      omega (arith, one, rest)

  pub fewer : (p : ℕ → X → Bool) (xs : List X) → length (filter_at p xs) ≤ length xs
  fewer p [] = omega arith
  fewer p (y ∷ ys) =
      let one = at_most_one (p 0 y) y (filter_at (λ n. p (suc n)) ys) in
      let rest = fewer (λ n. p (suc n)) ys in
      omega (arith, one, rest)

  one_before : (b : Bool) (y : X) (us vs : List X) → cond b (y ∷ us ++ vs) (us ++ vs) ≡ cond b (y ∷ us) us ++ vs
  one_before true y us vs = refl
  one_before false y us vs = refl

  -- what passes of two pieces
  pub of_pieces : (p : ℕ → X → Bool) (xs ys : List X) → filter_at p (xs ++ ys) ≡ filter_at p xs ++ filter_at (λ n. p (n + length xs)) ys
  of_pieces p [] ys = ap (λ (q : ℕ → X → Bool). filter_at q ys) (λ i n. p (sym (add-zero n) i))
  of_pieces p (x ∷ xs) ys =
      ap (λ (rest : List X). cond (p 0 x) (x ∷ rest) rest) (of_pieces (λ n. p (suc n)) xs ys)
      ∙ one_before (p 0 x) x (filter_at (λ n. p (suc n)) xs) (filter_at (λ n. p (suc (n + length xs))) ys)
      ∙ ap (λ (q : ℕ → X → Bool). filter_at p (x ∷ xs) ++ filter_at q ys) (λ i n. p (sym (add-suc n (length xs)) i))

-- ---- pieces of a capture

-- the part of two pieces
pub part_of_pieces : (of : ℕ) (lost : Option Loss) (number : ℕ) (first then : List Sent)
    → records_of_part of lost number (first ++ then) ≡ records_of_part of lost number first ++ records_behind of lost number (length first) then
part_of_pieces of lost number first then = of_pieces (is_in_part of lost number) first then

-- a number within the first piece does not depend on what follows
pub number_before : (of : ℕ) (lost : Option Loss) (number : ℕ) (first then : List Sent) (frame : ℕ) → frame ≤ length first
    → number_in_part of lost number (first ++ then) frame ≡ number_in_part of lost number first frame
number_before of lost number first then frame le = ap (λ records. length (records_of_part of lost number records)) (take-append-le frame first then le)

-- a number behind the last record is that of all records
pub number_behind : (of : ℕ) (lost : Option Loss) (number : ℕ) (records : List Sent) (frame : ℕ) → length records ≤ frame
    → number_in_part of lost number records frame ≡ length (records_of_part of lost number records)
number_behind of lost number records frame le = ap (λ some. length (records_of_part of lost number some)) (take_all frame records le)
