-- Operands are read back from their texts.
use Rattle.std.proofs.Common.{◌≡◌, ℕ, zero, suc, ◌<◌, ◌^◌, true, List, [], ◌∷◌, ◌++◌, length, drop, get_or, refl, sym, ap, ◌∙◌, arith}
use Rattle.std.specs.Prelude.{◌≢◌, ℤ, codes, FitsSigned}
use Rattle.std.specs.Int.{w16, w64}
use Rattle.std.specs.Fmt.{signed_decimal}
use Rattle.isa.specs.declared.operation.Register.{Register as RegisterName}
use Rattle.disasm.specs.declared.operand.Operand.{Operand}
use Rattle.disasm.specs.declared.operand.Operand.TheVariants.{Register, Number, Distance, Place, Wide}
use Rattle.disasm.specs.declared.operand.Operands.{Operands}
use Rattle.disasm.specs.declared.operand.Operands.TheVariants.{Zero, One, Two, Three}
use Rattle.disasm.specs.AssemblyText.{register_text, with_sign, hex_digits, operand_text, list_text}
use Rattle.text_lines.specs.Lines.{Lacks}
use Rattle.disasm.specs.LineReading.{OperandFits, OperandsFit, as_read, AreOperandsRead}
use Rattle.text_lines.proofs.shared.ByteLemmas.{all_bytes, all_append, lacks_from, mid_passes}
use Rattle.disasm.proofs.shared.Bytes.{word_byte, widen, signed_word, sign_word, widest_fits, far_fits, hex_word, register_word, register_tail}

place_word : (r : RegisterName) (z : ℤ) → FitsSigned w16 z → all_bytes (word_byte 120) (codes "[" ++ (register_text r ++ (with_sign z ++ codes "]"))) ≡ true
place_word r z fits =
    let tail : all_bytes (word_byte 120) (with_sign z ++ 93 ∷ []) ≡ true = all_append (word_byte 120) (with_sign z) (93 ∷ []) (widen 58 120 (with_sign z) (omega arith) (sign_word z (far_fits z fits))) refl in
    all_append (word_byte 120) (register_text r) (with_sign z ++ 93 ∷ []) (register_word r) tail

pub operand_word : (o : Operand) → OperandFits o → all_bytes (word_byte 128) (operand_text o) ≡ true
unfolding operand_text
operand_word (Register r) fits = widen 120 128 (register_text r) (omega arith) (register_word r)
operand_word (Number z) fits = widen 58 128 (signed_decimal z) (omega arith) (signed_word z fits)
operand_word (Distance z) fits = widen 58 128 (with_sign z) (omega arith) (sign_word z (widest_fits z fits))
operand_word (Place r z) fits = widen 120 128 (codes "[" ++ (register_text r ++ (with_sign z ++ codes "]"))) (omega arith) (place_word r z fits)
operand_word (Wide n) fits = hex_word 16 n

no_x : (text xs digits : List ℕ) → text ≡ xs ++ 120 ∷ digits → all_bytes (word_byte 120) text ≡ true → ⊥
no_x text xs digits is all =
    let passes : word_byte 120 120 ≡ true = mid_passes (word_byte 120) xs 120 digits (rw is at all) in
    cc

no_bracket : (text rest : List ℕ) → text ≡ 91 ∷ rest → all_bytes (word_byte 58) text ≡ true → ⊥
no_bracket text rest is all =
    let passes : word_byte 58 91 ≡ true = mid_passes (word_byte 58) [] 91 rest (rw is at all) in
    cc

first_of : (text : List ℕ) (c : ℕ) → get_or text 0 0 ≡ c → 0 < c → (rest : List ℕ) × (text ≡ c ∷ rest)
first_of [] c is some = absurd (omega arith)
first_of (x ∷ xs) c is some = (xs, ap (λ (b : ℕ). b ∷ xs) is)

no_r : (text : List ℕ) → get_or text 0 0 ≡ 114 → all_bytes (word_byte 58) text ≡ true → ⊥
no_r text is all =
    let found = first_of text 114 is (omega arith) in
    let passes : word_byte 58 114 ≡ true = mid_passes (word_byte 58) [] 114 found.0 (rw found.1 at all) in
    cc

pub wide_case : (text xs digits : List ℕ) (value : ℕ) → text ≡ xs ++ 120 ∷ digits → ((as_0 bs : List ℕ) → text ≡ as_0 ++ 120 ∷ bs → Lacks 120 as_0 → digits ≡ bs)
    → ((n : ℕ) → n < 2 ^ 64 → digits ≡ hex_digits 16 n → value ≡ n) → (o : Operand) → OperandFits o → text ≡ operand_text o → Wide value ≡ as_read o
unfolding operand_text
wide_case text xs digits value split first hex (Register r) fits is = absurd (no_x text xs digits split (rw is (register_word r)))
wide_case text xs digits value split first hex (Number z) fits is = absurd (no_x text xs digits split (rw is (widen 58 120 (signed_decimal z) (omega arith) (signed_word z fits))))
wide_case text xs digits value split first hex (Distance z) fits is = absurd (no_x text xs digits split (rw is (widen 58 120 (with_sign z) (omega arith) (sign_word z (widest_fits z fits)))))
wide_case text xs digits value split first hex (Place r z) fits is = absurd (no_x text xs digits split (rw is (place_word r z fits)))
wide_case text xs digits value split first hex (Wide n) fits is = ap Wide (hex n fits (first (48 ∷ []) (hex_digits 16 n) is (lacks_from (word_byte 58) 120 (48 ∷ []) refl refl)))

pub bracket_case : (text inside : List ℕ) (found : Operand) → text ≡ 91 ∷ inside → ((r : RegisterName) (z : ℤ) → FitsSigned w16 z → inside ≡ register_text r ++ (with_sign z ++ codes "]") → found ≡ Place r z)
    → (o : Operand) → OperandFits o → text ≡ operand_text o → found ≡ as_read o
unfolding operand_text
bracket_case text inside found begins place (Register r) fits is =
    let tail = register_tail r in
    let e : get_or text 0 0 ≡ 114 = ap (λ (xs : List ℕ). get_or xs 0 0) (is ∙ tail.1) in
    let f : get_or text 0 0 ≡ 91 = ap (λ (xs : List ℕ). get_or xs 0 0) begins in
    absurd (omega arith)
bracket_case text inside found begins place (Number z) fits is = absurd (no_bracket text inside begins (rw is (signed_word z fits)))
bracket_case text inside found begins place (Distance z) fits is = absurd (no_bracket text inside begins (rw is (sign_word z (widest_fits z fits))))
bracket_case text inside found begins place (Place r z) fits is = place r z fits (ap (drop 1) (sym begins ∙ is))
bracket_case text inside found begins place (Wide n) fits is =
    let e : get_or text 0 0 ≡ 48 = ap (λ (xs : List ℕ). get_or xs 0 0) is in
    let f : get_or text 0 0 ≡ 91 = ap (λ (xs : List ℕ). get_or xs 0 0) begins in
    absurd (omega arith)

pub register_case : (text : List ℕ) (found : RegisterName) → get_or text 0 0 ≡ 114 → ((r : RegisterName) → text ≡ register_text r → found ≡ r)
    → (o : Operand) → OperandFits o → text ≡ operand_text o → Register found ≡ as_read o
unfolding operand_text
register_case text found first named (Register r) fits is = ap Register (named r is)
register_case text found first named (Number z) fits is = absurd (no_r text first (rw is (signed_word z fits)))
register_case text found first named (Distance z) fits is = absurd (no_r text first (rw is (sign_word z (widest_fits z fits))))
register_case text found first named (Place r z) fits is =
    let e : get_or text 0 0 ≡ 91 = ap (λ (xs : List ℕ). get_or xs 0 0) is in
    absurd (omega arith)
register_case text found first named (Wide n) fits is =
    let e : get_or text 0 0 ≡ 48 = ap (λ (xs : List ℕ). get_or xs 0 0) is in
    absurd (omega arith)

pub number_case : (text : List ℕ) (found : ℤ) → get_or text 0 0 ≢ 114 → ((rest : List ℕ) → text ≢ 91 ∷ rest) → Lacks 120 text
    → ((z : ℤ) → FitsSigned w64 z → text ≡ signed_decimal z → found ≡ z) → ((z : ℤ) → FitsSigned w64 z → text ≡ with_sign z → found ≡ z)
    → (o : Operand) → OperandFits o → text ≡ operand_text o → Number found ≡ as_read o
unfolding operand_text
number_case text found not_r not_bracket lacks plain signed (Register r) fits is =
    absurd (not_r (ap (λ (xs : List ℕ). get_or xs 0 0) (is ∙ (register_tail r).1)))
number_case text found not_r not_bracket lacks plain signed (Number z) fits is = ap Number (plain z fits is)
number_case text found not_r not_bracket lacks plain signed (Distance z) fits is = ap Number (signed z (widest_fits z fits) is)
number_case text found not_r not_bracket lacks plain signed (Place r z) fits is = absurd (not_bracket _ is)
number_case text found not_r not_bracket lacks plain signed (Wide n) fits is =
    let long : length text ≡ length (48 ∷ 120 ∷ hex_digits 16 n) = ap length is in
    absurd (lacks 1 (omega arith) (ap (λ (xs : List ℕ). get_or xs 1 0) is))

lacks_comma : (o : Operand) → OperandFits o → Lacks 44 (operand_text o)
lacks_comma o fits = lacks_from (word_byte 128) 44 (operand_text o) (operand_word o fits) refl

-- with a space in front
spaced_lacks_comma : (o : Operand) → OperandFits o → Lacks 44 (32 ∷ operand_text o)
spaced_lacks_comma o fits zero lt = λ is. absurd (omega arith)
spaced_lacks_comma o fits (suc i) lt = lacks_comma o fits i (omega arith)

pub operands_case : (list a more b c b_text c_text : List ℕ) (x y z : Operand)
    → ((xs ys : List ℕ) → list ≡ xs ++ 44 ∷ ys → Lacks 44 xs → (a ≡ xs) × (more ≡ ys)) → (Lacks 44 list → (a ≡ list) × (more ≡ []))
    → ((xs ys : List ℕ) → more ≡ xs ++ 44 ∷ ys → Lacks 44 xs → (b ≡ xs) × (c ≡ ys)) → (Lacks 44 more → (b ≡ more) × (c ≡ []))
    → ((rest : List ℕ) → b ≡ 32 ∷ rest → b_text ≡ rest) → ((rest : List ℕ) → c ≡ 32 ∷ rest → c_text ≡ rest)
    → ((o : Operand) → OperandFits o → a ≡ operand_text o → x ≡ as_read o) → ((o : Operand) → OperandFits o → b_text ≡ operand_text o → y ≡ as_read o) → ((o : Operand) → OperandFits o → c_text ≡ operand_text o → z ≡ as_read o)
    → (os : Operands) → OperandsFit os → list ≡ list_text os → AreOperandsRead os x y z
unfolding list_text AreOperandsRead OperandsFit
operands_case list a more b c b_text c_text x y z cut whole cut_more whole_more after_b after_c read_x read_y read_z Zero fits is = tt
operands_case list a more b c b_text c_text x y z cut whole cut_more whole_more after_b after_c read_x read_y read_z (One o) fits is =
    read_x o fits ((whole (rw is (lacks_comma o fits))).0 ∙ is)
operands_case list a more b c b_text c_text x y z cut whole cut_more whole_more after_b after_c read_x read_y read_z (Two o p) fits is =
    let parts = cut (operand_text o) (32 ∷ operand_text p) is (lacks_comma o fits.0) in
    let second : Lacks 44 more = rw parts.1 (spaced_lacks_comma p fits.1) in
    (read_x o fits.0 parts.0, read_y p fits.1 (after_b (operand_text p) ((whole_more second).0 ∙ parts.1)))
operands_case list a more b c b_text c_text x y z cut whole cut_more whole_more after_b after_c read_x read_y read_z (Three o p q) fits is =
    let parts = cut (operand_text o) (32 ∷ operand_text p ++ 44 ∷ 32 ∷ operand_text q) is (lacks_comma o fits.0) in
    let others = cut_more (32 ∷ operand_text p) (32 ∷ operand_text q) parts.1 (spaced_lacks_comma p fits.1) in
    (read_x o fits.0 parts.0, read_y p fits.1 (after_b (operand_text p) others.0), read_z q fits.2 (after_c (operand_text q) others.1))
