-- All bytes of a text pass a test, and so none is a mark that doesn't.
use Rattle.std.proofs.Common.{◌≡◌, ℕ, zero, suc, ◌+◌, ◌<◌, Bool, true, false, ◌&&◌, leb, ltb, eqb, List, [], ◌∷◌, ◌++◌, length, get_or, refl, sym, ◌∙◌, ap, arith}
use Rattle.std.specs.Prelude.{◌≢◌}
use Rattle.std.proofs.lemmas.Bool.Decides.{Decides-eqb}

abbrev pub all_bytes : (ℕ → Bool) → List ℕ → Bool
all_bytes p [] = true
all_bytes p (b ∷ bs) = p b && all_bytes p bs

-- from the first number to below the second
abbrev pub within : ℕ → ℕ → ℕ → Bool
within low high b = leb low b && ltb b high

pub both : (a b : Bool) → (a && b) ≡ true → (a ≡ true) × (b ≡ true)
both true b e = (refl, e)
both false b e = absurd cc

pub joined : (a b : Bool) → a ≡ true → b ≡ true → (a && b) ≡ true
joined a b e f = rw (e, f) refl

pub all_append : (p : ℕ → Bool) (xs ys : List ℕ) → all_bytes p xs ≡ true → all_bytes p ys ≡ true → all_bytes p (xs ++ ys) ≡ true
all_append p [] ys a b = b
all_append p (x ∷ xs) ys a b =
    let s = both (p x) (all_bytes p xs) a in
    joined (p x) (all_bytes p (xs ++ ys)) s.0 (all_append p xs ys s.1 b)

pub all_more : (p : ℕ → Bool) (x : ℕ) (xs : List ℕ) → p x ≡ true → all_bytes p xs ≡ true → all_bytes p (x ∷ xs) ≡ true
all_more p x xs a b = joined (p x) (all_bytes p xs) a b

pub each_passes : (p : ℕ → Bool) (xs : List ℕ) → all_bytes p xs ≡ true → (i : ℕ) → i < length xs → p (get_or xs i 0) ≡ true
each_passes p [] a i lt = absurd (omega arith)
each_passes p (x ∷ xs) a zero lt = (both (p x) (all_bytes p xs) a).0
each_passes p (x ∷ xs) a (suc i) lt = each_passes p xs (both (p x) (all_bytes p xs) a).1 i (omega arith)

pub lacks_from : (p : ℕ → Bool) (c : ℕ) (xs : List ℕ) → all_bytes p xs ≡ true → p c ≡ false → (i : ℕ) → i < length xs → get_or xs i 0 ≢ c
lacks_from p c [] a f i lt = absurd (omega arith)
lacks_from p c (x ∷ xs) a f zero lt = λ is.
    let s = both (p x) (all_bytes p xs) a in
    let same : p x ≡ p c = ap p is in
    absurd cc
lacks_from p c (x ∷ xs) a f (suc i) lt = lacks_from p c xs (both (p x) (all_bytes p xs) a).1 f i (omega arith)

pub mid_passes : (p : ℕ → Bool) (xs : List ℕ) (c : ℕ) (ys : List ℕ) → all_bytes p (xs ++ c ∷ ys) ≡ true → p c ≡ true
mid_passes p [] c ys a = (both (p c) (all_bytes p ys) a).0
mid_passes p (x ∷ xs) c ys a = mid_passes p xs c ys (both (p x) (all_bytes p (xs ++ c ∷ ys)) a).1

pub weaken : (p q : ℕ → Bool) → ((b : ℕ) → p b ≡ true → q b ≡ true) → (xs : List ℕ) → all_bytes p xs ≡ true → all_bytes q xs ≡ true
weaken p q h [] a = refl
weaken p q h (x ∷ xs) a =
    let s = both (p x) (all_bytes p xs) a in
    joined (q x) (all_bytes q xs) (h x s.0) (weaken p q h xs s.1)

-- a list whose length a test compares with 0
pub not_empty : (r : Bool) (xs : List ℕ) → r ≡ eqb (length xs) 0 → r ≡ false → 0 < length xs
not_empty r [] h f = absurd cc
not_empty r (x ∷ xs) h f = omega arith

pub is_empty : (r : Bool) (xs : List ℕ) → r ≡ eqb (length xs) 0 → r ≡ true → xs ≡ []
is_empty r [] h t = refl
is_empty r (x ∷ xs) h t =
    let e : length (x ∷ xs) ≡ 0 = (Decides-eqb (length (x ∷ xs)) 0).0 (sym h ∙ t) in
    absurd (omega arith)
