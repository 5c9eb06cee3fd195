-- Instructions are read back from their lines.
use Rattle.std.proofs.Common.{◌≡◌, ℕ, true, leb, List, [], ◌∷◌, ◌++◌, refl, ap, ◌∙◌, arith}
use Rattle.std.specs.Prelude.{ℤ, pos}
use Rattle.std.proofs.lemmas.List.{append-nil}
use Rattle.std.proofs.lemmas.Bool.Decides.{nat_tests}
use Rattle.isa.specs.declared.operation.SourceOperand.TheVariants.{Imm, Reg}
use Rattle.ebpf_decode.specs.declared.insn.Insn.{Insn}
use Rattle.ebpf_decode.specs.declared.insn.Insn.TheVariants.{Alu, Neg, Movsx, Movsx32, End, Ja, Ja32, JumpIf, Ldx, Ldxs, St, Stx, AtomicUpdate, Lddw, Ldmap, Ldval, CallHelper, Exit}
use Rattle.ebpf_decode.specs.InstructionEncoding.{FieldsFit}
use Rattle.disasm.specs.declared.head.Head.{Head}
use Rattle.disasm.specs.declared.operand.Operand.{Operand}
use Rattle.disasm.specs.declared.operand.Operands.{Operands}
use Rattle.disasm.specs.declared.operand.Operands.TheVariants.{Zero, One, Two, Three}
use Rattle.disasm.specs.Names.{head_name}
use Rattle.disasm.specs.AssemblyText.{operand_text, list_text, operands_text, head_of, operands_of, line_of}
use Rattle.text_lines.specs.Lines.{Lacks}
use Rattle.disasm.specs.LineReading.{OperandFits, OperandsFit, AreOperandsRead, short_in, count_or_zero, insn_made}
use Rattle.disasm.proofs.Heads.{head_word}
use Rattle.text_lines.proofs.shared.ByteLemmas.{all_bytes, all_append, lacks_from, weaken}
use Rattle.disasm.proofs.shared.Bytes.{word_byte, wider_fits, widest_fits}
use Rattle.disasm.proofs.shared.Numbers.{short_again, word_again, count_again, count_fits}
use Rattle.disasm.proofs.Operands.{operand_word}

pub fits_again : (i : Insn) → FieldsFit i → OperandsFit (operands_of i)
unfolding FieldsFit OperandsFit operands_of
fits_again (Alu width op dst (Imm value)) fits = (tt, widest_fits value fits)
fits_again (Alu width op dst (Reg src)) fits = (tt, tt)
fits_again (Neg width dst) fits = tt
fits_again (Movsx extension dst src) fits = (tt, tt)
fits_again (Movsx32 extension dst src) fits = (tt, tt)
fits_again (End order swap_width dst) fits = tt
fits_again (Ja distance) fits = wider_fits distance fits
fits_again (Ja32 distance) fits = fits
fits_again (JumpIf width test dst (Imm value) distance) fits = (tt, widest_fits value fits.1, wider_fits distance fits.0)
fits_again (JumpIf width test dst (Reg src) distance) fits = (tt, tt, wider_fits distance fits.0)
fits_again (Ldx size dst src offset) fits = (tt, fits)
fits_again (Ldxs extension dst src offset) fits = (tt, fits)
fits_again (St size dst offset immediate) fits = (fits.0, widest_fits immediate fits.1)
fits_again (Stx size dst src offset) fits = (fits, tt)
fits_again (AtomicUpdate width op dst src offset) fits = (fits, tt)
fits_again (Lddw dst value) fits = (tt, fits)
fits_again (Ldmap dst map) fits = (tt, widest_fits map fits)
fits_again (Ldval dst map offset) fits = (tt, widest_fits map fits.0, count_fits offset fits.1)
fits_again (CallHelper helper) fits = widest_fits helper fits
fits_again Exit fits = tt

pub insn_again : (i : Insn) → FieldsFit i → (x y z : Operand) → AreOperandsRead (operands_of i) x y z → insn_made (head_of i) x y z ≡ i
unfolding FieldsFit AreOperandsRead operands_of head_of insn_made
insn_again (Alu width op dst (Imm value)) fits x y z read = rw (read.0, read.1) (ap (λ (n : ℤ). Alu width op dst (Imm n)) (word_again value fits))
insn_again (Alu width op dst (Reg src)) fits x y z read = rw (read.0, read.1) refl
insn_again (Neg width dst) fits x y z read = rw read refl
insn_again (Movsx extension dst src) fits x y z read = rw (read.0, read.1) refl
insn_again (Movsx32 extension dst src) fits x y z read = rw (read.0, read.1) refl
insn_again (End order swap_width dst) fits x y z read = rw read refl
insn_again (Ja distance) fits x y z read = rw read (ap Ja (short_again distance fits))
insn_again (Ja32 distance) fits x y z read = rw read (ap Ja32 (word_again distance fits))
insn_again (JumpIf width test dst (Imm value) distance) fits x y z read = rw (read.0, read.1, read.2) (ap (λ (n : ℤ). JumpIf width test dst (Imm n) (short_in distance)) (word_again value fits.1) ∙ ap (λ (d : ℤ). JumpIf width test dst (Imm value) d) (short_again distance fits.0))
insn_again (JumpIf width test dst (Reg src) distance) fits x y z read = rw (read.0, read.1, read.2) (ap (λ (d : ℤ). JumpIf width test dst (Reg src) d) (short_again distance fits.0))
insn_again (Ldx size dst src offset) fits x y z read = rw (read.0, read.1) refl
insn_again (Ldxs extension dst src offset) fits x y z read = rw (read.0, read.1) refl
insn_again (St size dst offset immediate) fits x y z read = rw (read.0, read.1) (ap (λ (n : ℤ). St size dst offset n) (word_again immediate fits.1))
insn_again (Stx size dst src offset) fits x y z read = rw (read.0, read.1) refl
insn_again (AtomicUpdate width op dst src offset) fits x y z read = rw (read.0, read.1) refl
insn_again (Lddw dst value) fits x y z read = rw (read.0, read.1) refl
insn_again (Ldmap dst map) fits x y z read = rw (read.0, read.1) (ap (λ (n : ℤ). Ldmap dst n) (word_again map fits))
insn_again (Ldval dst map offset) fits x y z read = rw (read.0, read.1, read.2) (ap (λ (n : ℤ). Ldval dst n (count_or_zero (pos offset))) (word_again map fits.0) ∙ ap (λ (n : ℕ). Ldval dst map n) (count_again offset fits.1))
insn_again (CallHelper helper) fits x y z read = rw read (ap CallHelper (word_again helper fits))
insn_again Exit fits x y z read = refl

pub lacks_space : (h : Head) → Lacks 32 (head_name h)
lacks_space h = lacks_from (word_byte 128) 32 (head_name h) (head_word h) refl

pub parts_of_line : (h : Head) (os : Operands) (line name list : List ℕ) → ((xs ys : List ℕ) → line ≡ xs ++ 32 ∷ ys → Lacks 32 xs → (name ≡ xs) × (list ≡ ys)) → (Lacks 32 line → (name ≡ line) × (list ≡ []))
    → line ≡ head_name h ++ operands_text os → (name ≡ head_name h) × (list ≡ list_text os)
unfolding operands_text list_text
parts_of_line h Zero line name list cut whole is =
    let same : line ≡ head_name h = is ∙ append-nil (head_name h) in
    let found = whole (rw same (lacks_space h)) in
    (found.0 ∙ same, found.1)
parts_of_line h (One a) line name list cut whole is = cut (head_name h) (list_text (One a)) is (lacks_space h)
parts_of_line h (Two a b) line name list cut whole is = cut (head_name h) (list_text (Two a b)) is (lacks_space h)
parts_of_line h (Three a b c) line name list cut whole is = cut (head_name h) (list_text (Three a b c)) is (lacks_space h)

-- ---- no line has a line feed

from_32 : (b : ℕ) → word_byte 128 b ≡ true → leb 32 b ≡ true
from_32 b a = grind (arith, nat_tests)

word_from_32 : (xs : List ℕ) → all_bytes (word_byte 128) xs ≡ true → all_bytes (leb 32) xs ≡ true
word_from_32 xs a = weaken (word_byte 128) (leb 32) from_32 xs a

operand_from_32 : (o : Operand) → OperandFits o → all_bytes (leb 32) (operand_text o) ≡ true
operand_from_32 o fits = word_from_32 (operand_text o) (operand_word o fits)

operands_from_32 : (os : Operands) → OperandsFit os → all_bytes (leb 32) (operands_text os) ≡ true
unfolding operands_text list_text OperandsFit
operands_from_32 Zero fits = refl
operands_from_32 (One a) fits = operand_from_32 a fits
operands_from_32 (Two a b) fits = all_append (leb 32) (operand_text a) (44 ∷ 32 ∷ operand_text b) (operand_from_32 a fits.0) (operand_from_32 b fits.1)
operands_from_32 (Three a b c) fits =
    let last : all_bytes (leb 32) (operand_text b ++ 44 ∷ 32 ∷ operand_text c) ≡ true = all_append (leb 32) (operand_text b) (44 ∷ 32 ∷ operand_text c) (operand_from_32 b fits.1) (operand_from_32 c fits.2) in
    all_append (leb 32) (operand_text a) (44 ∷ 32 ∷ operand_text b ++ 44 ∷ 32 ∷ operand_text c) (operand_from_32 a fits.0) last

pub line_lacks_feed : (i : Insn) → FieldsFit i → Lacks 10 (line_of i)
unfolding line_of
line_lacks_feed i fits = lacks_from (leb 32) 10 (line_of i) (all_append (leb 32) (head_name (head_of i)) (operands_text (operands_of i)) (word_from_32 (head_name (head_of i)) (head_word (head_of i))) (operands_from_32 (operands_of i) (fits_again i fits))) refl
