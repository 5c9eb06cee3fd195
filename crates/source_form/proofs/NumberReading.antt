-- What `parse` answers, as a function of the digits.
use Rattle.std.proofs.Common.{◌≡◌, ℕ, ◌<◌, ◌^◌, Bool, true, false, ◌&&◌, not, List, [], ◌∷◌, length, get_or, Result, Ok, Err, Option, Some, None, refl, ap, sym, arith}
use Rattle.std.specs.Prelude.{◌≢◌, if◌then◌else◌, nat_lt, ◌==◌}
use Rattle.std.specs.Result.{OkIff, result_ok}
use Rattle.std.specs.Str.Parse.{AllDigits, IsNumeral, digits_value, ParsesUnsigned, without_leading_plus}
use Rattle.std.proofs.lemmas.Str.Parse.{without_leading_plus_none}
use Rattle.std.proofs.lemmas.Bool.Decides.{nat_tests}
use Rattle.source_form.specs.SourceText.{begins_with, all_digits, number_in}
use Rattle.source_form.proofs.Trimming.{both}

joined : (a b : Bool) → a ≡ true → b ≡ true → (a && b) ≡ true
joined a b e f = rw (e, f) refl

lt_true : (m n : ℕ) → m < n → nat_lt m n ≡ true
lt_true m n lt = grind (arith, nat_tests)

lt_back : (m n : ℕ) → nat_lt m n ≡ true → m < n
lt_back m n e = grind (arith, nat_tests)

some_true : (n : ℕ) → 0 < n → not (n == 0) ≡ true
some_true n lt = grind (arith, nat_tests)

some_back : (n : ℕ) → not (n == 0) ≡ true → 0 < n
some_back n e = grind (arith, nat_tests)

digits_true : (radix : ℕ) (ds : List ℕ) → AllDigits radix ds → all_digits radix ds ≡ true
digits_true radix [] a = refl
digits_true radix (d ∷ ds) a = joined _ _ (lt_true _ _ a.0) (digits_true radix ds a.1)

digits_back : (radix : ℕ) (ds : List ℕ) → all_digits radix ds ≡ true → AllDigits radix ds
digits_back radix [] e = tt
digits_back radix (d ∷ ds) e =
    let s = both _ _ e in
    (lt_back _ _ s.0, digits_back radix ds s.1)

test : ℕ → List ℕ → Bool
test radix ds = not (length ds == 0) && (all_digits radix ds && nat_lt (digits_value radix ds) (2 ^ 64))

test_true : (radix : ℕ) (ds : List ℕ) → IsNumeral radix ds × (digits_value radix ds < 2 ^ 64) → test radix ds ≡ true
unfolding test
test_true radix ds h = joined _ _ (some_true _ h.0.0) (joined _ _ (digits_true radix ds h.0.1) (lt_true _ _ h.1))

-- the number that digits write
pub number_again : (radix : ℕ) (ds : List ℕ) → IsNumeral radix ds → digits_value radix ds < 2 ^ 64 → number_in radix ds ≡ Some (digits_value radix ds)
unfolding test
number_again radix ds is small = rw (test_true radix ds (is, small)) refl

test_back : (radix : ℕ) (ds : List ℕ) → test radix ds ≡ true → IsNumeral radix ds × (digits_value radix ds < 2 ^ 64)
unfolding test
test_back radix ds e =
    let s = both _ _ e in
    let t = both _ _ s.1 in
    ((some_back _ s.0, digits_back radix ds t.0), lt_back _ _ t.1)

chosen : {E : Type 0} (b : Bool) (v : ℕ) (P : Type 0) (r : Result ℕ E) → (P → b ≡ true) → (b ≡ true → P) → OkIff r P v → result_ok r ≡ (if b then Some v else None)
chosen true v P (Ok x) to from h = ap Some h.1
chosen false v P (Ok x) to from h = absurd (false_not_true (to h.0)) where
  false_not_true : false ≡ true → ⊥
  false_not_true e = cc
chosen true v P (Err e) to from h = absurd (h (from refl))
chosen false v P (Err e) to from h = refl

no_plus : (bs : List ℕ) → begins_with bs (43 ∷ []) ≡ false → get_or bs 0 0 ≢ 43
no_plus [] e = λ is. absurd (omega (arith, is))
no_plus (b ∷ bs) e = λ is. grind (arith, nat_tests)

pub number_read : {E : Type 0} (radix : ℕ) (bs : List ℕ) (r : Result ℕ E) → begins_with bs (43 ∷ []) ≡ false → ParsesUnsigned 64 radix bs r → result_ok r ≡ number_in radix bs
unfolding test
number_read radix bs r e h =
    let plain : without_leading_plus bs ≡ bs = without_leading_plus_none bs (no_plus bs e) in
    let reads : OkIff r (IsNumeral radix bs × (digits_value radix bs < 2 ^ 64)) (digits_value radix bs) = rw plain at h in
    chosen (test radix bs) (digits_value radix bs) (IsNumeral radix bs × (digits_value radix bs < 2 ^ 64)) r (test_true radix bs) (test_back radix bs) reads

none_if : (b : Bool) (v : Option ℕ) → None ≡ (if b && false then v else None)
none_if true v = refl
none_if false v = refl

-- what is no digit writes no number
pub number_none : (radix : ℕ) (ds : List ℕ) → all_digits radix ds ≡ false → number_in radix ds ≡ None
number_none radix ds e = rw e (sym (none_if _ _))

pub plus_16 : (bs : List ℕ) → begins_with bs (43 ∷ []) ≡ true → None ≡ number_in 16 bs
plus_16 [] e = refl
plus_16 (b ∷ bs) e =
    let same : b ≡ 43 = grind (arith, nat_tests) in
    rw same (none_if _ _)

pub plus_10 : (bs : List ℕ) → begins_with bs (43 ∷ []) ≡ true → None ≡ number_in 10 bs
plus_10 [] e = refl
plus_10 (b ∷ bs) e =
    let same : b ≡ 43 = grind (arith, nat_tests) in
    rw same (none_if _ _)
