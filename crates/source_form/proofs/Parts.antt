-- The parts that a mark separates.
use Rattle.std.proofs.Common.{◌≡◌, ◌∙◌, ℕ, suc, ◌<◌, Bool, true, false, eqb, List, [], ◌∷◌, length, refl, ap, arith}
use Rattle.std.specs.List.{slice_split, onto_first, position_or_len}
use Rattle.std.proofs.lemmas.List.Splits.{slice_split-cons_yes, slice_split-cons_no, slice_split_first}
use Rattle.source_form.specs.SourceText.{parts_at, before_mark, after_mark}

none_case : (p : ℕ → Bool) (x : ℕ) (xs : List ℕ) (b : Bool) → p x ≡ b → position_or_len p (x ∷ xs) ≡ suc (length xs) → (position_or_len p xs ≡ length xs → slice_split p xs ≡ xs ∷ [])
    → slice_split p (x ∷ xs) ≡ (x ∷ xs) ∷ []
none_case p x xs true e h ih = absurd (omega (arith, rw e at h))
none_case p x xs false e h ih =
    let rest : position_or_len p xs ≡ length xs = omega (arith, rw e at h) in
    slice_split-cons_no p x xs e ∙ ap (λ (parts : List (List ℕ)). onto_first x parts) (ih rest)

none : (p : ℕ → Bool) (xs : List ℕ) → position_or_len p xs ≡ length xs → slice_split p xs ≡ xs ∷ []
none p [] e = refl
none p (x ∷ xs) e = none_case p x xs (p x) refl e (none p xs)

-- a text without the mark is one part
pub parts_none : (mark : ℕ) (text : List ℕ) → position_or_len (λ b. eqb b mark) text ≡ length text → parts_at mark text ≡ text ∷ []
parts_none mark text e = none (λ b. eqb b mark) text e

-- else the first part is before the first mark
pub parts_some : (mark : ℕ) (text : List ℕ) → position_or_len (λ b. eqb b mark) text < length text → parts_at mark text ≡ before_mark mark text ∷ parts_at mark (after_mark mark text)
parts_some mark text lt = slice_split_first (λ b. eqb b mark) text 0 lt

pub record HasPart {X : Type 0} (parts : List X) : Type 0 where
  pub first : X
  pub more : List X
  pub is : parts ≡ first ∷ more

put : (x : ℕ) (parts : List (List ℕ)) → HasPart (onto_first x parts)
put x [] = record { first = x ∷ []; more = []; is = refl }
put x (part ∷ parts) = record { first = x ∷ part; more = parts; is = refl }

some_case : (p : ℕ → Bool) (x : ℕ) (xs : List ℕ) (b : Bool) → p x ≡ b → HasPart (slice_split p (x ∷ xs))
some_case p x xs true e = record { first = []; more = slice_split p xs; is = slice_split-cons_yes p x xs e }
some_case p x xs false e = rw (slice_split-cons_no p x xs e) (put x (slice_split p xs))

-- there is a part
pub part_of : (mark : ℕ) (text : List ℕ) → HasPart (parts_at mark text)
part_of mark [] = record { first = []; more = []; is = refl }
part_of mark (x ∷ xs) = some_case (λ b. eqb b mark) x xs (eqb x mark) refl
