-- A line of an exact text means itself in the source form.
use Rattle.std.proofs.Common.{◌≡◌, ◌∙◌, ℕ, zero, suc, ◌+◌, ◌<◌, ◌^◌, ◌/◌, ◌%◌, Bool, true, false, ◌&&◌, not, leb, ltb, eqb, List, [], ◌∷◌, ◌++◌, length, map, refl, sym, ap, arith, append_assoc, length-append, Ok}
use Rattle.std.specs.Prelude.{ℤ, pos, negsuc, codes, FitsSigned, Option, Some, None, if◌then◌else◌}
use Rattle.std.specs.Int.{w16, w32, w64}
use Rattle.std.specs.Fmt.{decimal, signed_decimal}
use Rattle.std.specs.Str.{trim, skip_leading_whitespace}
use Rattle.std.specs.Str.Parse.{digits_value}
use Rattle.std.proofs.lemmas.Bool.Decides.{nat_tests}
use Rattle.std.proofs.lemmas.Fmt.{decimal_by_steps, decimal_nonempty, decimal_is_IsNumeral}
use Rattle.std.proofs.lemmas.List.{append-nil}
use Rattle.isa.specs.declared.operation.Register.{Register as RegisterName}
use Rattle.isa.specs.declared.operation.Register.TheVariants.{R0, R1, R2, R3, R4, R5, R6, R7, R8, R9, R10}
use Rattle.isa.specs.declared.operation.SourceOperand.TheVariants.{Imm, Reg}
use Rattle.isa.specs.declared.operation.Width.TheVariants.{Bits32, Bits64}
use Rattle.isa.specs.declared.operation.AluOp.TheVariants.{Add, Sub, Mul, Div, Sdiv, Or, And, Lsh, Rsh, Mod, Smod, Xor, Mov, Arsh}
use Rattle.isa.specs.declared.operation.Extension.TheVariants.{I8, I16, I32}
use Rattle.isa.specs.declared.operation.ShortExtension.TheVariants.{Short8, Short16}
use Rattle.isa.specs.declared.operation.ByteOrder.TheVariants.{ToLittle, ToBig, Swapped}
use Rattle.isa.specs.declared.operation.SwapWidth.TheVariants.{Swap16, Swap32, Swap64}
use Rattle.isa.specs.declared.operation.Test.TheVariants.{Eq, Gt, Ge, Set, Ne, Sgt, Sge, Lt, Le, Slt, Sle}
use Rattle.isa.specs.declared.operation.AtomicOp.TheVariants.{AtomicAdd, AtomicOr, AtomicAnd, AtomicXor, FetchAdd, FetchOr, FetchAnd, FetchXor, Exchange, CompareExchange}
use Rattle.isa.specs.declared.operation.Size.TheVariants.{U8, U16, U32, U64}
use Rattle.ebpf_decode.specs.declared.insn.Insn.{Insn}
use Rattle.ebpf_decode.specs.declared.insn.Insn.TheVariants as insns
use Rattle.ebpf_decode.specs.InstructionEncoding.{FieldsFit}
use Rattle.disasm.specs.declared.head.Head.{Head}
use Rattle.disasm.specs.declared.head.Head.TheVariants as heads
use Rattle.disasm.specs.declared.operand.Operand.{Operand}
use Rattle.disasm.specs.declared.operand.Operand.TheVariants.{Register, Number, Distance, Place, Wide as WideNumber}
use Rattle.disasm.specs.declared.operand.Operands.{Operands}
use Rattle.disasm.specs.declared.operand.Operands.TheVariants.{Zero, One, Two, Three}
use Rattle.disasm.specs.Names.{head_stem, head_suffix, head_name}
use Rattle.text_lines.specs.Digits.{hex_digit}
use Rattle.disasm.specs.AssemblyText.{register_text, with_sign, hex_digits, operand_text, list_text, head_of, operands_of}
use Rattle.disasm.specs.LineReading.{OperandFits}
use Rattle.text_lines.proofs.shared.ByteLemmas.{all_bytes, all_append, weaken}
use Rattle.disasm.proofs.shared.Bytes.{word_byte, signed_word, sign_word, widest_fits, far_fits, wider_fits, register_word, register_tail}
use Rattle.disasm.proofs.shared.Numbers.{whole, hex_value, hex_all}
use Rattle.source_form.specs.declared.words.Form.{Form}
use Rattle.source_form.specs.declared.words.Form.TheVariants.{Plain, Jump, Call, Wide, MapRow}
use Rattle.source_form.specs.SourceText.{parts_at, is_heading, operand_form_of, is_number_byte, begins_number, begins_with, number_in, number_meaning, is_upper_word, word_told, plain_value, immediate_meaning, early_meaning, last_meaning, operands_meaning}
use Rattle.source_form.proofs.NumberReading.{number_again, number_none}
use Rattle.source_form.proofs.Trimming.{both, other, no_mark, one_part, first_part, ascii_byte, solid, EndsWell, ends_word, ends_before, begin_kept, IsTrimmed, trim_same, trim_space}

-- ---- bytes

-- a byte of a first word or an operand
abbrev pub exact_byte : ℕ → Bool
exact_byte b = leb 43 b && (not (eqb b 44) && (not (eqb b 58) && ltb b 128))

-- a byte of a line
abbrev pub line_byte : ℕ → Bool
line_byte b = leb 32 b && (not (eqb b 35) && (not (eqb b 58) && ltb b 128))

to_solid : (b : ℕ) → exact_byte b ≡ true → solid b ≡ true
to_solid b e = grind (arith, nat_tests)

to_line : (b : ℕ) → exact_byte b ≡ true → line_byte b ≡ true
to_line b e = grind (arith, nat_tests)

pub to_ascii : (b : ℕ) → line_byte b ≡ true → ascii_byte b ≡ true
to_ascii b e = grind (arith, nat_tests)

pub not_feed : (b : ℕ) → line_byte b ≡ true → other 10 b ≡ true
not_feed b e = grind (arith, nat_tests)

pub not_sharp : (b : ℕ) → line_byte b ≡ true → other 35 b ≡ true
not_sharp b e = grind (arith, nat_tests)

pub not_colon : (b : ℕ) → line_byte b ≡ true → other 58 b ≡ true
not_colon b e = grind (arith, nat_tests)

pub not_tab : (b : ℕ) → exact_byte b ≡ true → other 9 b ≡ true
not_tab b e = grind (arith, nat_tests)

pub not_space : (b : ℕ) → exact_byte b ≡ true → other 32 b ≡ true
not_space b e = grind (arith, nat_tests)

not_comma : (b : ℕ) → exact_byte b ≡ true → other 44 b ≡ true
not_comma b e = grind (arith, nat_tests)

of_number : (b : ℕ) → word_byte 58 b ≡ true → exact_byte b ≡ true
of_number b e = grind (arith, nat_tests)

no_x_in_number : (b : ℕ) → word_byte 58 b ≡ true → other 120 b ≡ true
no_x_in_number b e = grind (arith, nat_tests)

no_x_in_name : (b : ℕ) → word_byte 120 b ≡ true → other 120 b ≡ true
no_x_in_name b e = grind (arith, nat_tests)

abbrev pub IsExact : List ℕ → Type 0
IsExact xs = all_bytes exact_byte xs ≡ true

pub exact_line : (xs : List ℕ) → IsExact xs → all_bytes line_byte xs ≡ true
exact_line xs a = weaken exact_byte line_byte to_line xs a

-- ---- first words

pub head_form : Head → Form
head_form heads.Ja = Jump
head_form heads.Ja32 = Jump
head_form (heads.JumpIf width test) = Jump
head_form heads.Call = Call
head_form heads.Lddw = Wide
head_form heads.Ldmap = MapRow
head_form heads.Ldval = MapRow
head_form head = Plain

-- what the stem alone says of the first word
abbrev StemTells : Head → Type 0
StemTells h =
    (is_heading (head_stem h ++ head_suffix h) ≡ false) × (operand_form_of (head_stem h ++ head_suffix h) ≡ head_form h) ×
    IsExact (head_stem h) × (eqb (length (head_stem h)) 0 ≡ false)

stem_tells : (h : Head) → StemTells h
unfolding head_form
stem_tells (heads.Alu width Add) = (refl, refl, refl, refl)
stem_tells (heads.Alu width Sub) = (refl, refl, refl, refl)
stem_tells (heads.Alu width Mul) = (refl, refl, refl, refl)
stem_tells (heads.Alu width Div) = (refl, refl, refl, refl)
stem_tells (heads.Alu width Sdiv) = (refl, refl, refl, refl)
stem_tells (heads.Alu width Or) = (refl, refl, refl, refl)
stem_tells (heads.Alu width And) = (refl, refl, refl, refl)
stem_tells (heads.Alu width Lsh) = (refl, refl, refl, refl)
stem_tells (heads.Alu width Rsh) = (refl, refl, refl, refl)
stem_tells (heads.Alu width Mod) = (refl, refl, refl, refl)
stem_tells (heads.Alu width Smod) = (refl, refl, refl, refl)
stem_tells (heads.Alu width Xor) = (refl, refl, refl, refl)
stem_tells (heads.Alu width Mov) = (refl, refl, refl, refl)
stem_tells (heads.Alu width Arsh) = (refl, refl, refl, refl)
stem_tells (heads.Neg width) = (refl, refl, refl, refl)
stem_tells (heads.Movsx extension) = (refl, refl, refl, refl)
stem_tells (heads.Movsx32 extension) = (refl, refl, refl, refl)
stem_tells (heads.End ToLittle swap_width) = (refl, refl, refl, refl)
stem_tells (heads.End ToBig swap_width) = (refl, refl, refl, refl)
stem_tells (heads.End Swapped swap_width) = (refl, refl, refl, refl)
stem_tells heads.Ja = (refl, refl, refl, refl)
stem_tells heads.Ja32 = (refl, refl, refl, refl)
stem_tells (heads.JumpIf width Eq) = (refl, refl, refl, refl)
stem_tells (heads.JumpIf width Gt) = (refl, refl, refl, refl)
stem_tells (heads.JumpIf width Ge) = (refl, refl, refl, refl)
stem_tells (heads.JumpIf width Set) = (refl, refl, refl, refl)
stem_tells (heads.JumpIf width Ne) = (refl, refl, refl, refl)
stem_tells (heads.JumpIf width Sgt) = (refl, refl, refl, refl)
stem_tells (heads.JumpIf width Sge) = (refl, refl, refl, refl)
stem_tells (heads.JumpIf width Lt) = (refl, refl, refl, refl)
stem_tells (heads.JumpIf width Le) = (refl, refl, refl, refl)
stem_tells (heads.JumpIf width Slt) = (refl, refl, refl, refl)
stem_tells (heads.JumpIf width Sle) = (refl, refl, refl, refl)
stem_tells (heads.Ldx size) = (refl, refl, refl, refl)
stem_tells (heads.Ldxs extension) = (refl, refl, refl, refl)
stem_tells (heads.St size) = (refl, refl, refl, refl)
stem_tells (heads.Stx size) = (refl, refl, refl, refl)
stem_tells (heads.Atomic width AtomicAdd) = (refl, refl, refl, refl)
stem_tells (heads.Atomic width AtomicOr) = (refl, refl, refl, refl)
stem_tells (heads.Atomic width AtomicAnd) = (refl, refl, refl, refl)
stem_tells (heads.Atomic width AtomicXor) = (refl, refl, refl, refl)
stem_tells (heads.Atomic width FetchAdd) = (refl, refl, refl, refl)
stem_tells (heads.Atomic width FetchOr) = (refl, refl, refl, refl)
stem_tells (heads.Atomic width FetchAnd) = (refl, refl, refl, refl)
stem_tells (heads.Atomic width FetchXor) = (refl, refl, refl, refl)
stem_tells (heads.Atomic width Exchange) = (refl, refl, refl, refl)
stem_tells (heads.Atomic width CompareExchange) = (refl, refl, refl, refl)
stem_tells heads.Lddw = (refl, refl, refl, refl)
stem_tells heads.Ldmap = (refl, refl, refl, refl)
stem_tells heads.Ldval = (refl, refl, refl, refl)
stem_tells heads.Call = (refl, refl, refl, refl)
stem_tells heads.Exit = (refl, refl, refl, refl)

suffix_exact : (h : Head) → IsExact (head_suffix h)
suffix_exact (heads.Alu Bits64 op) = refl
suffix_exact (heads.Alu Bits32 op) = refl
suffix_exact (heads.Neg Bits64) = refl
suffix_exact (heads.Neg Bits32) = refl
suffix_exact (heads.Movsx I8) = refl
suffix_exact (heads.Movsx I16) = refl
suffix_exact (heads.Movsx I32) = refl
suffix_exact (heads.Movsx32 Short8) = refl
suffix_exact (heads.Movsx32 Short16) = refl
suffix_exact (heads.End order Swap16) = refl
suffix_exact (heads.End order Swap32) = refl
suffix_exact (heads.End order Swap64) = refl
suffix_exact heads.Ja = refl
suffix_exact heads.Ja32 = refl
suffix_exact (heads.JumpIf Bits64 test) = refl
suffix_exact (heads.JumpIf Bits32 test) = refl
suffix_exact (heads.Ldx U8) = refl
suffix_exact (heads.Ldx U16) = refl
suffix_exact (heads.Ldx U32) = refl
suffix_exact (heads.Ldx U64) = refl
suffix_exact (heads.Ldxs I8) = refl
suffix_exact (heads.Ldxs I16) = refl
suffix_exact (heads.Ldxs I32) = refl
suffix_exact (heads.St U8) = refl
suffix_exact (heads.St U16) = refl
suffix_exact (heads.St U32) = refl
suffix_exact (heads.St U64) = refl
suffix_exact (heads.Stx U8) = refl
suffix_exact (heads.Stx U16) = refl
suffix_exact (heads.Stx U32) = refl
suffix_exact (heads.Stx U64) = refl
suffix_exact (heads.Atomic Bits64 op) = refl
suffix_exact (heads.Atomic Bits32 op) = refl
suffix_exact heads.Lddw = refl
suffix_exact heads.Ldmap = refl
suffix_exact heads.Ldval = refl
suffix_exact heads.Call = refl
suffix_exact heads.Exit = refl

not_zero : (n : ℕ) → eqb n 0 ≡ false → 0 < n
not_zero n e = grind (arith, nat_tests)

-- a first word of exact bytes, of this form
pub record IsFirstWord (h : Head) : Type 0 where
  pub exact : IsExact (head_name h)
  pub some : 0 < length (head_name h)
  pub no_heading : is_heading (head_name h) ≡ false
  pub form : operand_form_of (head_name h) ≡ head_form h

pub is_first_word : (h : Head) → IsFirstWord h
unfolding head_name
is_first_word h =
    let stem : 0 < length (head_stem h) = not_zero (length (head_stem h)) (stem_tells h).3 in
    record {
      exact = all_append exact_byte (head_stem h) (head_suffix h) (stem_tells h).2 (suffix_exact h);
      some = omega (arith, stem, length-append (head_stem h) (head_suffix h));
      no_heading = (stem_tells h).0;
      form = (stem_tells h).1;
    }

-- ---- texts of one word

pub trimmed_word : (text : List ℕ) → 0 < length text → IsExact text → IsTrimmed text
trimmed_word [] some a = absurd (omega (arith, some))
trimmed_word (x ∷ xs) some a = record {
  ascii = weaken line_byte ascii_byte to_ascii (x ∷ xs) (exact_line (x ∷ xs) a);
  begins = begin_kept x xs (to_solid x (both (exact_byte x) (all_bytes exact_byte xs) a).0);
  ends = ends_word x xs (weaken exact_byte solid to_solid (x ∷ xs) a);
}

pub begin_front : (xs ys : List ℕ) → 0 < length xs → IsExact xs → skip_leading_whitespace (xs ++ ys) ≡ xs ++ ys
begin_front [] ys some a = absurd (omega (arith, some))
begin_front (x ∷ xs) ys some a = begin_kept x (xs ++ ys) (to_solid x (both (exact_byte x) (all_bytes exact_byte xs) a).0)

-- ---- operands

register_exact : (r : RegisterName) → IsExact (register_text r)
register_exact R0 = refl
register_exact R1 = refl
register_exact R2 = refl
register_exact R3 = refl
register_exact R4 = refl
register_exact R5 = refl
register_exact R6 = refl
register_exact R7 = refl
register_exact R8 = refl
register_exact R9 = refl
register_exact R10 = refl

hex_digit_exact : (d : ℕ) → d < 16 → IsExact (hex_digit d ∷ [])
hex_digit_exact d lt = grind (arith, nat_tests)

hex_exact : (k n : ℕ) → IsExact (hex_digits k n)
unfolding hex_digits
hex_exact zero n = refl
hex_exact (suc k) n =
    all_append exact_byte (hex_digits k (n / 16)) (hex_digit (n % 16) ∷ []) (hex_exact k (n / 16)) (hex_digit_exact (n % 16) (omega arith))

pub number_exact : (xs : List ℕ) → all_bytes (word_byte 58) xs ≡ true → IsExact xs
number_exact xs a = weaken (word_byte 58) exact_byte of_number xs a

place_exact : (r : RegisterName) (z : ℤ) → FitsSigned w16 z → IsExact (codes "[" ++ (register_text r ++ (with_sign z ++ codes "]")))
place_exact r z fits =
    let tail : IsExact (with_sign z ++ 93 ∷ []) = all_append exact_byte (with_sign z) (93 ∷ []) (number_exact (with_sign z) (sign_word z (far_fits z fits))) refl in
    all_append exact_byte (register_text r) (with_sign z ++ 93 ∷ []) (register_exact r) tail

operand_exact : (o : Operand) → OperandFits o → IsExact (operand_text o)
unfolding operand_text
operand_exact (Register r) fits = register_exact r
operand_exact (Number z) fits = number_exact (signed_decimal z) (signed_word z fits)
operand_exact (Distance z) fits = number_exact (with_sign z) (sign_word z (widest_fits z fits))
operand_exact (Place r z) fits = place_exact r z fits
operand_exact (WideNumber n) fits = hex_exact 16 n

signed_some : (z : ℤ) → FitsSigned w64 z → 0 < length (signed_decimal z)
signed_some (pos n) fits = decimal_nonempty n (omega arith)
signed_some (negsuc n) fits = omega arith

sign_some : (z : ℤ) → 0 < length (with_sign z)
sign_some (pos n) = omega arith
sign_some (negsuc n) = omega arith

operand_some : (o : Operand) → OperandFits o → 0 < length (operand_text o)
unfolding operand_text
operand_some (Register r) fits = let long = ap length (register_tail r).1 in omega (arith, long)
operand_some (Number z) fits = signed_some z fits
operand_some (Distance z) fits = sign_some z
operand_some (Place r z) fits = omega arith
operand_some (WideNumber n) fits = omega arith

-- ---- lists of operands

-- what the parts of a list are
pub texts_of : Operands → List (List ℕ)
texts_of Zero = []
texts_of (One a) = operand_text a ∷ []
texts_of (Two a b) = operand_text a ∷ operand_text b ∷ []
texts_of (Three a b c) = operand_text a ∷ operand_text b ∷ operand_text c ∷ []

pub record IsList (os : Operands) : Type 0 where
  pub bytes : all_bytes line_byte (list_text os) ≡ true
  pub begins : skip_leading_whitespace (list_text os) ≡ list_text os
  pub ends : EndsWell (list_text os)
  pub parts : map trim (parts_at 44 (list_text os)) ≡ texts_of os

operand_bytes : (o : Operand) → OperandFits o → all_bytes line_byte (operand_text o) ≡ true
operand_bytes o fits = exact_line (operand_text o) (operand_exact o fits)

operand_trimmed : (o : Operand) → OperandFits o → IsTrimmed (operand_text o)
operand_trimmed o fits = trimmed_word (operand_text o) (operand_some o fits) (operand_exact o fits)

no_commas : (o : Operand) → OperandFits o → all_bytes (other 44) (operand_text o) ≡ true
no_commas o fits = weaken exact_byte (other 44) not_comma (operand_text o) (operand_exact o fits)

pub one_is_list : (a : Operand) → OperandFits a → IsList (One a)
unfolding list_text texts_of
one_is_list a fa = record {
  bytes = operand_bytes a fa;
  begins = (operand_trimmed a fa).begins;
  ends = (operand_trimmed a fa).ends;
  parts = ap (map trim) (one_part 44 (operand_text a) (no_commas a fa)) ∙ ap (λ (text : List ℕ). text ∷ []) (trim_same (operand_text a) (operand_trimmed a fa));
}

pub two_is_list : (a b : Operand) → OperandFits a → OperandFits b → IsList (Two a b)
unfolding list_text texts_of
two_is_list a b fa fb =
    let cut : parts_at 44 (operand_text a ++ 44 ∷ 32 ∷ operand_text b) ≡ operand_text a ∷ (32 ∷ operand_text b) ∷ [] =
    first_part 44 (operand_text a) (32 ∷ operand_text b) (no_commas a fa)
    ∙ ap (λ (parts : List (List ℕ)). operand_text a ∷ parts) (one_part 44 (32 ∷ operand_text b) (no_commas b fb)) in
    record {
      bytes = all_append line_byte (operand_text a) (44 ∷ 32 ∷ operand_text b) (operand_bytes a fa) (operand_bytes b fb);
      begins = begin_front (operand_text a) (44 ∷ 32 ∷ operand_text b) (operand_some a fa) (operand_exact a fa);
      ends = ends_before (operand_text a) (44 ∷ 32 ∷ operand_text b) (ends_before (44 ∷ 32 ∷ []) (operand_text b) (operand_trimmed b fb).ends);
      parts = ap (map trim) cut
          ∙ ap (λ (text : List ℕ). text ∷ trim (32 ∷ operand_text b) ∷ []) (trim_same (operand_text a) (operand_trimmed a fa))
          ∙ ap (λ (text : List ℕ). operand_text a ∷ text ∷ []) (trim_space (operand_text b) (operand_trimmed b fb));
    }

pub three_is_list : (a b c : Operand) → OperandFits a → OperandFits b → OperandFits c → IsList (Three a b c)
unfolding list_text texts_of
three_is_list a b c fa fb fc =
    let last : parts_at 44 (32 ∷ (operand_text b ++ 44 ∷ 32 ∷ operand_text c)) ≡ (32 ∷ operand_text b) ∷ (32 ∷ operand_text c) ∷ [] =
    first_part 44 (32 ∷ operand_text b) (32 ∷ operand_text c) (no_commas b fb)
    ∙ ap (λ (parts : List (List ℕ)). (32 ∷ operand_text b) ∷ parts) (one_part 44 (32 ∷ operand_text c) (no_commas c fc)) in
    let cut : parts_at 44 (operand_text a ++ 44 ∷ 32 ∷ (operand_text b ++ 44 ∷ 32 ∷ operand_text c)) ≡
    operand_text a ∷ (32 ∷ operand_text b) ∷ (32 ∷ operand_text c) ∷ [] =
    first_part 44 (operand_text a) (32 ∷ (operand_text b ++ 44 ∷ 32 ∷ operand_text c)) (no_commas a fa)
    ∙ ap (λ (parts : List (List ℕ)). operand_text a ∷ parts) last in
    record {
      bytes = all_append line_byte (operand_text a) (44 ∷ 32 ∷ (operand_text b ++ 44 ∷ 32 ∷ operand_text c)) (operand_bytes a fa)
          (all_append line_byte (operand_text b) (44 ∷ 32 ∷ operand_text c) (operand_bytes b fb) (operand_bytes c fc));
      begins = begin_front (operand_text a) (44 ∷ 32 ∷ (operand_text b ++ 44 ∷ 32 ∷ operand_text c)) (operand_some a fa) (operand_exact a fa);
      ends = ends_before (operand_text a) (44 ∷ 32 ∷ (operand_text b ++ 44 ∷ 32 ∷ operand_text c))
          (ends_before (44 ∷ 32 ∷ []) (operand_text b ++ 44 ∷ 32 ∷ operand_text c)
          (ends_before (operand_text b) (44 ∷ 32 ∷ operand_text c) (ends_before (44 ∷ 32 ∷ []) (operand_text c) (operand_trimmed c fc).ends)));
      parts = ap (map trim) cut
          ∙ ap (λ (text : List ℕ). text ∷ trim (32 ∷ operand_text b) ∷ trim (32 ∷ operand_text c) ∷ []) (trim_same (operand_text a) (operand_trimmed a fa))
          ∙ ap (λ (text : List ℕ). operand_text a ∷ text ∷ trim (32 ∷ operand_text c) ∷ []) (trim_space (operand_text b) (operand_trimmed b fb))
          ∙ ap (λ (text : List ℕ). operand_text a ∷ operand_text b ∷ text ∷ []) (trim_space (operand_text c) (operand_trimmed c fc));
    }

-- ---- what operands mean

-- an operand that is no immediate is as it is
abbrev IsShort : Operand → Type 0
IsShort o = number_meaning (operand_text o) ≡ Ok (operand_text o)

-- and one that may be
abbrev IsImmediate : Operand → Type 0
IsImmediate o = immediate_meaning (operand_text o) ≡ Ok (operand_text o)

-- and one before others
abbrev IsEarly : Form → Operand → Type 0
IsEarly form o = early_meaning form (operand_text o) ≡ Ok (operand_text o)

-- and the last one
abbrev IsLast : Form → Operand → Type 0
IsLast form o = (statements : List (List ℕ)) (place : ℕ) → last_meaning statements place form (operand_text o) ≡ Ok (operand_text o)

abbrev pub Stand : Form → Operands → Type 0
Stand form Zero = Unit {0}
Stand form (One a) = IsLast form a
Stand form (Two a b) = IsEarly form a × IsLast form b
Stand form (Three a b c) = IsEarly form a × IsEarly form b × IsLast form c

no_x : (text : List ℕ) → all_bytes (other 120) text ≡ true → number_meaning text ≡ Ok text
no_x text a = rw (no_mark 120 text a) refl

short_register : (r : RegisterName) → IsShort (Register r)
unfolding operand_text
short_register r = no_x (register_text r) (weaken (word_byte 120) (other 120) no_x_in_name (register_text r) (register_word r))

no_x_number : (text : List ℕ) → all_bytes (word_byte 58) text ≡ true → number_meaning text ≡ Ok text
no_x_number text a = no_x text (weaken (word_byte 58) (other 120) no_x_in_number text a)

short_number : (z : ℤ) → FitsSigned w64 z → IsShort (Number z)
unfolding operand_text
short_number z fits = no_x_number (signed_decimal z) (signed_word z fits)

short_distance : (z : ℤ) → FitsSigned w32 z → IsShort (Distance z)
unfolding operand_text
short_distance z fits = no_x_number (with_sign z) (sign_word z (widest_fits z fits))

short_place : (r : RegisterName) (z : ℤ) → FitsSigned w16 z → IsShort (Place r z)
unfolding operand_text
short_place r z fits =
    let sign : all_bytes (other 120) (with_sign z) ≡ true = weaken (word_byte 58) (other 120) no_x_in_number (with_sign z) (sign_word z (far_fits z fits)) in
    let tail : all_bytes (other 120) (with_sign z ++ 93 ∷ []) ≡ true = all_append (other 120) (with_sign z) (93 ∷ []) sign refl in
    no_x (91 ∷ (register_text r ++ (with_sign z ++ 93 ∷ [])))
    (all_append (other 120) (register_text r) (with_sign z ++ 93 ∷ [])
    (weaken (word_byte 120) (other 120) no_x_in_name (register_text r) (register_word r)) tail)

abbrev digit_byte : ℕ → Bool
digit_byte b = leb 48 b && ltb b 58

digit_is : (m : ℕ) → m < 10 → all_bytes digit_byte ((48 + m) ∷ []) ≡ true
digit_is m lt = grind (arith, nat_tests)

decimal_digits : (n : ℕ) → n < 2 ^ 64 → all_bytes digit_byte (decimal n) ≡ true
decimal_digits n small = decimal_by_steps (λ m ds. all_bytes digit_byte ds ≡ true) (λ m lt. digit_is m lt) (λ m ds le a. all_append digit_byte ds ((48 + m % 10) ∷ []) a (digit_is (m % 10) (omega arith))) n small

immediate_register : (r : RegisterName) → IsImmediate (Register r)
unfolding operand_text
immediate_register R0 = refl
immediate_register R1 = refl
immediate_register R2 = refl
immediate_register R3 = refl
immediate_register R4 = refl
immediate_register R5 = refl
immediate_register R6 = refl
immediate_register R7 = refl
immediate_register R8 = refl
immediate_register R9 = refl
immediate_register R10 = refl

told_none : (text : List ℕ) (value : Option ℕ) → value ≡ None → number_meaning text ≡ Ok text → word_told text value ≡ Ok text
told_none text value e short = rw e short

-- it begins with a bracket, and so with no digit
immediate_place : (r : RegisterName) (z : ℤ) → FitsSigned w16 z → IsImmediate (Place r z)
unfolding operand_text
immediate_place r z fits =
    let text : List ℕ = 91 ∷ (register_text r ++ (with_sign z ++ 93 ∷ [])) in
    told_none text (plain_value text) (number_none 10 text refl) (short_place r z fits)

-- a signed number of 32 bits is none that is too large for one
is_lower : (n : ℕ) → n < 2 ^ 31 → is_upper_word n ≡ false
is_lower n lt = grind (arith, nat_tests)

lower_told : (text : List ℕ) (n : ℕ) → n < 2 ^ 31 → number_meaning text ≡ Ok text → word_told text (Some n) ≡ Ok text
lower_told text n lt short = rw (is_lower n lt) short

no_prefix : (text : List ℕ) → all_bytes digit_byte text ≡ true → begins_with text (48 ∷ 120 ∷ []) ≡ false
no_prefix [] a = refl
no_prefix (x ∷ []) a = grind (arith, nat_tests)
no_prefix (x ∷ y ∷ more) a =
    let rest = (both (digit_byte x) (all_bytes digit_byte (y ∷ more)) a).1 in
    let digit : digit_byte y ≡ true = (both (digit_byte y) (all_bytes digit_byte more) rest).0 in
    grind (arith, nat_tests)

chosen_told : (text : List ℕ) (zero_first : Bool) (value : Option ℕ) → number_meaning text ≡ Ok text → word_told text value ≡ Ok text
    → word_told text (if zero_first then None else value) ≡ Ok text
chosen_told text true value short told = short
chosen_told text false value short told = told

decimal_again : (n : ℕ) → n < 2 ^ 64 → number_in 10 (decimal n) ≡ Some n
decimal_again n small =
    let read = decimal_is_IsNumeral n small in
    number_again 10 (decimal n) read.0 (rw read.1 small) ∙ ap (λ (m : ℕ). Some m) read.1

value_told : (text : List ℕ) (value : Option ℕ) (n : ℕ) → value ≡ Some n → n < 2 ^ 31 → number_meaning text ≡ Ok text → word_told text value ≡ Ok text
value_told text value n e lt short = rw e (lower_told text n lt short)

immediate_number : (z : ℤ) → FitsSigned w32 z → IsImmediate (Number z)
unfolding operand_text
immediate_number (pos n) fits =
    let text : List ℕ = decimal n in
    let short = short_number (pos n) (widest_fits (pos n) fits) in
    let plain = no_prefix text (decimal_digits n (omega arith)) in
    rw plain (chosen_told text (begins_with text (48 ∷ [])) (number_in 10 text) short
    (value_told text (number_in 10 text) n (decimal_again n (omega arith)) (omega arith) short))
immediate_number (negsuc n) fits =
    let text : List ℕ = signed_decimal (negsuc n) in
    told_none text (plain_value text) (number_none 10 text refl) (short_number (negsuc n) (widest_fits (negsuc n) fits))

last_plain : (o : Operand) → IsImmediate o → IsLast Plain o
last_plain o immediate = λ statements place. immediate

last_map : (o : Operand) → IsShort o → IsLast MapRow o
last_map o short = λ statements place. short

-- a distance begins with its sign
last_jump : (z : ℤ) → FitsSigned w32 z → IsLast Jump (Distance z)
unfolding operand_text
last_jump (pos n) fits = λ statements place. short_distance (pos n) fits
last_jump (negsuc n) fits = λ statements place. short_distance (negsuc n) fits

-- a helper's number begins with a sign or a digit
number_begins : (text : List ℕ) → 0 < length text → all_bytes digit_byte text ≡ true → begins_number text ≡ true
number_begins [] some a = absurd (omega (arith, some))
number_begins (x ∷ xs) some a =
    let digit : digit_byte x ≡ true = (both (digit_byte x) (all_bytes digit_byte xs) a).0 in
    by_digit x digit
  where
    by_digit : (b : ℕ) → digit_byte b ≡ true → is_number_byte b ≡ true
    by_digit b e = grind (arith, nat_tests)

last_call : (z : ℤ) → FitsSigned w64 z → IsLast Call (Number z)
unfolding operand_text
last_call (pos n) fits = λ statements place.
    rw (number_begins (decimal n) (decimal_nonempty n (omega arith)) (decimal_digits n (omega arith))) (short_number (pos n) fits)
last_call (negsuc n) fits = λ statements place. short_number (negsuc n) fits

hex_some : (n : ℕ) → 0 < length (hex_digits 16 n)
unfolding hex_digits
hex_some n = omega (arith, length-append (hex_digits 15 (n / 16)) (hex_digit (n % 16) ∷ []))

hex_again : (n : ℕ) → n < 2 ^ 64 → number_in 16 (hex_digits 16 n) ≡ Some n
hex_again n small =
    let value : digits_value 16 (hex_digits 16 n) ≡ n = hex_value 16 n (rw whole small) in
    number_again 16 (hex_digits 16 n) (hex_some n, hex_all 16 n) (rw value small) ∙ ap (λ (m : ℕ). Some m) value

last_wide : (n : ℕ) → n < 2 ^ 64 → IsLast Wide (WideNumber n)
unfolding operand_text
last_wide n small = λ statements place. rw (hex_again n small) refl

-- the operands of an instruction are as they are
pub stand : (i : Insn) → FieldsFit i → Stand (head_form (head_of i)) (operands_of i)
unfolding FieldsFit head_of operands_of head_form
stand (insns.Alu width op dst (Imm value)) fits = (short_register dst, last_plain (Number value) (immediate_number value fits))
stand (insns.Alu width op dst (Reg src)) fits = (short_register dst, last_plain (Register src) (immediate_register src))
stand (insns.Neg width dst) fits = last_plain (Register dst) (immediate_register dst)
stand (insns.Movsx extension dst src) fits = (short_register dst, last_plain (Register src) (immediate_register src))
stand (insns.Movsx32 extension dst src) fits = (short_register dst, last_plain (Register src) (immediate_register src))
stand (insns.End order swap_width dst) fits = last_plain (Register dst) (immediate_register dst)
stand (insns.Ja distance) fits = last_jump distance (wider_fits distance fits)
stand (insns.Ja32 distance) fits = last_jump distance fits
stand (insns.JumpIf width test dst (Imm value) distance) fits = (immediate_register dst, immediate_number value fits.1, last_jump distance (wider_fits distance fits.0))
stand (insns.JumpIf width test dst (Reg src) distance) fits = (immediate_register dst, immediate_register src, last_jump distance (wider_fits distance fits.0))
stand (insns.Ldx size dst src offset) fits = (short_register dst, last_plain (Place src offset) (immediate_place src offset fits))
stand (insns.Ldxs extension dst src offset) fits = (short_register dst, last_plain (Place src offset) (immediate_place src offset fits))
stand (insns.St size dst offset immediate) fits = (short_place dst offset fits.0, last_plain (Number immediate) (immediate_number immediate fits.1))
stand (insns.Stx size dst src offset) fits = (short_place dst offset fits, last_plain (Register src) (immediate_register src))
stand (insns.AtomicUpdate width op dst src offset) fits = (short_place dst offset fits, last_plain (Register src) (immediate_register src))
stand (insns.Lddw dst value) fits = (short_register dst, last_wide value fits)
stand (insns.Ldmap dst map) fits = (short_register dst, last_map (Number map) (short_number map (widest_fits map fits)))
stand (insns.Ldval dst map offset) fits = (short_register dst, short_number map (widest_fits map fits.0), last_map (Number (pos offset)) (short_number (pos offset) (omega (arith, fits.1))))
stand (insns.CallHelper helper) fits = last_call helper (widest_fits helper fits)
stand insns.Exit fits = tt

pub operands_mean : (statements : List (List ℕ)) (place : ℕ) (form : Form) (so_far : List ℕ) (os : Operands) → Stand form os →
    operands_meaning statements place form so_far (texts_of os) ≡ Ok (so_far ++ list_text os)
unfolding operands_meaning list_text texts_of
operands_mean statements place form so_far Zero are = ap Ok (sym (append-nil so_far))
operands_mean statements place form so_far (One a) are = rw (are statements place) refl
operands_mean statements place form so_far (Two a b) are =
    rw (are.0, are.1 statements place) (ap Ok (simp append_assoc refl))
operands_mean statements place form so_far (Three a b c) are =
    rw (are.0, are.1, are.2 statements place) (ap Ok (simp append_assoc refl))
