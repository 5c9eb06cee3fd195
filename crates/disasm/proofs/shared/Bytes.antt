-- Which bytes are in the words of a line.
use Rattle.std.proofs.Common.{◌≡◌, ℕ, zero, suc, ◌+◌, ◌≤◌, ◌<◌, ◌^◌, ◌/◌, ◌%◌, Bool, true, ◌&&◌, not, leb, ltb, eqb, List, [], ◌∷◌, refl, arith}
use Rattle.std.specs.Prelude.{ℤ, pos, negsuc, FitsSigned}
use Rattle.std.specs.Int.{w16, w32, w64}
use Rattle.std.specs.Fmt.{decimal, signed_decimal}
use Rattle.std.proofs.lemmas.Fmt.{decimal_by_steps}
use Rattle.std.proofs.lemmas.Bool.Decides.{nat_tests}
use Rattle.isa.specs.declared.operation.Register.{Register}
use Rattle.isa.specs.declared.operation.Register.TheVariants.{R0, R1, R2, R3, R4, R5, R6, R7, R8, R9, R10}
use Rattle.text_lines.specs.Digits.{hex_digit}
use Rattle.text_lines.proofs.shared.ByteLemmas.{all_bytes, all_append, weaken}
use Rattle.disasm.specs.AssemblyText.{register_text, with_sign, hex_digits}

-- no space, comma or line feed, and below a limit
abbrev pub word_byte : ℕ → ℕ → Bool
word_byte top b = leb 43 b && (not (eqb b 44) && ltb b top)

wider : (s t b : ℕ) → s ≤ t → word_byte s b ≡ true → word_byte t b ≡ true
wider s t b le a = grind (arith, nat_tests)

pub widen : (s t : ℕ) (xs : List ℕ) → s ≤ t → all_bytes (word_byte s) xs ≡ true → all_bytes (word_byte t) xs ≡ true
widen s t xs le a = weaken (word_byte s) (word_byte t) (λ b h. wider s t b le h) xs a

digit_word : (m : ℕ) → m < 10 → all_bytes (word_byte 58) ((48 + m) ∷ []) ≡ true
digit_word m lt = grind (arith, nat_tests)

pub decimal_word : (n : ℕ) → n < 2 ^ 64 → all_bytes (word_byte 58) (decimal n) ≡ true
decimal_word n small = decimal_by_steps (λ m ds. all_bytes (word_byte 58) ds ≡ true) (λ m lt. digit_word m lt) (λ m ds le a. all_append (word_byte 58) ds ((48 + m % 10) ∷ []) a (digit_word (m % 10) (omega arith))) n small

pub signed_word : (z : ℤ) → FitsSigned w64 z → all_bytes (word_byte 58) (signed_decimal z) ≡ true
signed_word (pos n) fits = decimal_word n (omega arith)
signed_word (negsuc n) fits = decimal_word (suc n) (omega arith)

pub sign_word : (z : ℤ) → FitsSigned w64 z → all_bytes (word_byte 58) (with_sign z) ≡ true
sign_word (pos n) fits = decimal_word n (omega arith)
sign_word (negsuc n) fits = decimal_word (suc n) (omega arith)

-- a number of 32 bits fits 64
pub widest_fits : (z : ℤ) → FitsSigned w32 z → FitsSigned w64 z
widest_fits (pos n) fits = omega arith
widest_fits (negsuc n) fits = omega arith

-- and so does one of 16
pub far_fits : (z : ℤ) → FitsSigned w16 z → FitsSigned w64 z
far_fits (pos n) fits = omega arith
far_fits (negsuc n) fits = omega arith

pub wider_fits : (z : ℤ) → FitsSigned w16 z → FitsSigned w32 z
wider_fits (pos n) fits = omega arith
wider_fits (negsuc n) fits = omega arith

hex_word_digit : (d : ℕ) → d < 16 → all_bytes (word_byte 128) (hex_digit d ∷ []) ≡ true
hex_word_digit d lt = grind (arith, nat_tests)

pub hex_word : (k n : ℕ) → all_bytes (word_byte 128) (hex_digits k n) ≡ true
unfolding hex_digits
hex_word zero n = refl
hex_word (suc k) n = all_append (word_byte 128) (hex_digits k (n / 16)) (hex_digit (n % 16) ∷ []) (hex_word k (n / 16)) (hex_word_digit (n % 16) (omega arith))

pub register_word : (r : Register) → all_bytes (word_byte 120) (register_text r) ≡ true
register_word R0 = refl
register_word R1 = refl
register_word R2 = refl
register_word R3 = refl
register_word R4 = refl
register_word R5 = refl
register_word R6 = refl
register_word R7 = refl
register_word R8 = refl
register_word R9 = refl
register_word R10 = refl

pub register_tail : (r : Register) → (rest : List ℕ) × (register_text r ≡ 114 ∷ rest)
register_tail R0 = (_, refl)
register_tail R1 = (_, refl)
register_tail R2 = (_, refl)
register_tail R3 = (_, refl)
register_tail R4 = (_, refl)
register_tail R5 = (_, refl)
register_tail R6 = (_, refl)
register_tail R7 = (_, refl)
register_tail R8 = (_, refl)
register_tail R9 = (_, refl)
register_tail R10 = (_, refl)
