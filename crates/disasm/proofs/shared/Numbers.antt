-- Numbers are read back from their texts.
use Rattle.std.proofs.Common.{◌≡◌, ℕ, zero, suc, ◌+◌, ◌*◌, ◌<◌, ◌^◌, ◌/◌, ◌%◌, List, [], ◌∷◌, ◌++◌, length, drop, get_or, Result, Ok, Err, refl, ap, ◌∙◌, arith, leb, true, length-append}
use Rattle.std.specs.Prelude.{◌≢◌, ℤ, pos, negsuc, FitsSigned}
use Rattle.std.specs.Int.{w16, w32, w64}
use Rattle.std.specs.Fmt.{decimal, signed_decimal}
use Rattle.std.specs.Result.{OkIff}
use Rattle.std.specs.Char.{digit_value}
use Rattle.std.specs.Str.Parse.{AllDigits, digits_value, digits_value_after, ParsesSigned, ParsesUnsigned, without_leading_plus}
use Rattle.std.proofs.lemmas.Fmt.{decimal_is_IsNumeral, parse-signed_decimal}
use Rattle.std.proofs.lemmas.Str.{digit_value-digit_char}
use Rattle.std.proofs.lemmas.Bool.Decides.{nat_tests}
use Rattle.text_lines.proofs.shared.ByteLemmas.{all_bytes, all_append, lacks_from}
use Rattle.text_lines.proofs.shared.ResultLemmas.{ok_same}
use Rattle.std.proofs.lemmas.Str.Parse.{without_leading_plus_none, IsNumeralModel, numerals_by_value, tells_digits, parse_signed_plus}
use Rattle.std.proofs.lemmas.Bool.{lt-ltb}
use Rattle.std.proofs.lemmas.Int.{to_z-of_z}
use mir.Val.{to_z, of_z}
use Rattle.disasm.specs.LineReading.{short_in, word_or_zero, count_or_zero}
use Rattle.text_lines.specs.Digits.{hex_digit}
use Rattle.disasm.specs.AssemblyText.{with_sign, hex_digits}

own : IsNumeralModel (AllDigits 10) (digits_value 10)
own = numerals_by_value (AllDigits 10) tells_digits

pub ok_from : {A E P : Type 0} (r : Result A E) (v : A) → OkIff r P v → P → r ≡ Ok v
ok_from (Ok x) v h p = ap Ok h.1
ok_from (Err e) v h p = absurd (h p)

pub plain_read : {E : Type 0} (z : ℤ) (bs : List ℕ) (r : Result ℤ E) → FitsSigned w64 z → bs ≡ signed_decimal z → ParsesSigned w64 10 bs r → r ≡ Ok z
plain_read (pos n) bs r fits is h = parse-signed_decimal w64 (pos n) bs r fits (omega arith) is h
plain_read (negsuc n) bs r fits is h = parse-signed_decimal w64 (negsuc n) bs r fits (omega arith) is h

pub signed_read : {E : Type 0} (z : ℤ) (bs : List ℕ) (r : Result ℤ E) → FitsSigned w64 z → bs ≡ with_sign z → ParsesSigned w64 10 bs r → r ≡ Ok z
signed_read (negsuc n) bs r fits is h = plain_read (negsuc n) bs r fits is h
signed_read (pos n) bs r fits is h =
    let numeral = decimal_is_IsNumeral n (omega arith) in
    let digits : drop 1 bs ≡ decimal n = ap (drop 1) is in
    let reads = parse_signed_plus own w64 bs r h (ap (λ (xs : List ℕ). get_or xs 0 0) is) in
    let value : digits_value 10 (drop 1 bs) ≡ n = rw digits numeral.1 in
    ok_from r _ reads (rw digits numeral.0.1, rw digits numeral.0.0, omega arith) ∙ ap (λ (m : ℕ). Ok (pos m)) value

value_append : (acc : ℕ) (xs : List ℕ) (d : ℕ) → digits_value_after 16 acc (xs ++ d ∷ []) ≡ digits_value_after 16 acc xs * 16 + digit_value d
value_append acc [] d = refl
value_append acc (x ∷ xs) d = value_append (acc * 16 + digit_value x) xs d

digits_append : (xs : List ℕ) (d : ℕ) → AllDigits 16 xs → digit_value d < 16 → AllDigits 16 (xs ++ d ∷ [])
digits_append [] d a lt = (lt, tt)
digits_append (x ∷ xs) d a lt = (a.0, digits_append xs d a.1 lt)

digit_back : (d : ℕ) → d < 16 → digit_value (hex_digit d) ≡ d
digit_back d lt = digit_value-digit_char d (omega arith)

pub hex_all : (k n : ℕ) → AllDigits 16 (hex_digits k n)
unfolding hex_digits
hex_all zero n = tt
hex_all (suc k) n = digits_append (hex_digits k (n / 16)) (hex_digit (n % 16)) (hex_all k (n / 16)) (rw (digit_back (n % 16) (omega arith)) (omega arith))

pub bound : ℕ → ℕ
bound zero = 1
bound (suc k) = bound k * 16

pub hex_value : (k n : ℕ) → n < bound k → digits_value 16 (hex_digits k n) ≡ n
unfolding hex_digits bound
hex_value zero n lt = omega arith
hex_value (suc k) n lt =
    let front : digits_value 16 (hex_digits k (n / 16)) ≡ n / 16 = hex_value k (n / 16) (omega arith) in
    let last : digit_value (hex_digit (n % 16)) ≡ n % 16 = digit_back (n % 16) (omega arith) in
    value_append 0 (hex_digits k (n / 16)) (hex_digit (n % 16)) ∙ rw (front, last) (omega arith)

pub whole : bound 16 ≡ 2 ^ 64
unfolding bound
whole = refl

digit_from_48 : (d : ℕ) → d < 16 → all_bytes (leb 48) (hex_digit d ∷ []) ≡ true
digit_from_48 d lt = grind (arith, nat_tests)

hex_from_48 : (k n : ℕ) → all_bytes (leb 48) (hex_digits k n) ≡ true
unfolding hex_digits
hex_from_48 zero n = refl
hex_from_48 (suc k) n = all_append (leb 48) (hex_digits k (n / 16)) (hex_digit (n % 16) ∷ []) (hex_from_48 k (n / 16)) (digit_from_48 (n % 16) (omega arith))

hex_some : (k n : ℕ) → 0 < length (hex_digits (suc k) n)
unfolding hex_digits
hex_some k n = omega (arith, length-append (hex_digits k (n / 16)) (hex_digit (n % 16) ∷ []))

first_digit : (n : ℕ) → get_or (hex_digits 16 n) 0 0 ≢ 43
first_digit n = lacks_from (leb 48) 43 (hex_digits 16 n) (hex_from_48 16 n) refl 0 (hex_some 15 n)

pub hex_read : {E : Type 0} (n : ℕ) (bs : List ℕ) (r : Result ℕ E) → n < 2 ^ 64 → bs ≡ hex_digits 16 n → ParsesUnsigned 64 16 bs r → r ≡ Ok n
hex_read n bs r lt is h =
    let plain : without_leading_plus bs ≡ hex_digits 16 n = without_leading_plus_none bs (rw is (first_digit n)) ∙ is in
    let value : digits_value 16 (without_leading_plus bs) ≡ n = rw plain (hex_value 16 n (rw whole lt)) in
    ok_from r _ h ((rw plain (hex_some 15 n), rw plain (hex_all 16 n)), rw value lt) ∙ ap (λ (m : ℕ). Ok m) value

pub ok_value : {E : Type 0} (r : Result ℤ E) (v z : ℤ) → FitsSigned w64 z → r ≡ Ok v → r ≡ Ok z → to_z w64 (of_z w64 v) ≡ z
ok_value r v z fits a b = rw (ok_same r v z a b) (to_z-of_z w64 z fits)

pub short_again : (z : ℤ) → FitsSigned w16 z → short_in z ≡ z
short_again (pos n) fits = rw (lt-ltb n 32768 (omega arith)) refl
short_again (negsuc n) fits = rw (lt-ltb n 32768 (omega arith)) refl

pub word_again : (z : ℤ) → FitsSigned w32 z → word_or_zero z ≡ z
word_again (pos n) fits = rw (lt-ltb n 0x8000_0000 (omega arith)) refl
word_again (negsuc n) fits = rw (lt-ltb n 0x8000_0000 (omega arith)) refl

pub count_again : (n : ℕ) → n < 2 ^ 32 → count_or_zero (pos n) ≡ n
count_again n fits = rw (lt-ltb n 0x1_0000_0000 (omega arith)) refl

-- an unsigned number of 32 bits fits 64
pub count_fits : (n : ℕ) → n < 2 ^ 32 → FitsSigned w64 (pos n)
count_fits n fits = omega arith
