-- A slot's bytes and its fields determine each other.
use Rattle.std.proofs.Common.{◌≡◌, ℕ, zero, suc, ◌+◌, ◌*◌, ◌/◌, ◌%◌, ◌^◌, ◌<◌, ◌≤◌, Bool, true, false, ◌&&◌, eqb, List, [], ◌∷◌, ◌++◌, length, get_or, drop, ℤ, refl, sym, ap, ◌∙◌, arith, lit<, w32}
use Rattle.std.specs.Prelude.{FitsSigned}
use Rattle.std.specs.Int.{w16, to_le_bytes, from_le_bytes, cast_signed, cast_unsigned}
use Rattle.std.specs.List.{flat_map, AllByRecursion}
use Rattle.std.specs.Ordering.{int_eq}
use Rattle.std.proofs.Math.Facts.{sfits_to_z, Fits-of_z}
use Rattle.std.proofs.lemmas.Int.{of_z-to_z, to_z-of_z}
use Rattle.std.proofs.lemmas.Bool.{eqb-true, eq-eqb}
use Rattle.std.proofs.lemmas.Bool.Decides.{Decides-int_eq}
use Rattle.std.proofs.lemmas.Nat.{le_bytes_2, le_bytes_4, from_le_bytes-to_le_bytes_2, from_le_bytes-to_le_bytes_4}
use Rattle.std.proofs.lemmas.List.{get_or-drop, length-drop}
use Rattle.ebpf_decode.specs.declared.slot.CodeSlot.{CodeSlot}
use Rattle.ebpf_decode.specs.SlotForm.{slot_bytes, slot_at, slots_at, same_slot}
use Rattle.ebpf_decode.specs.InstructionEncoding.{slot}
use Rattle.ebpf_decode.proofs.Slots.{SlotFits}

-- ---- equality of slots

same_parts : (o o' d d' s s' : ℕ) (f f' i i' : ℤ) → o ≡ o' → d ≡ d' → s ≡ s' → f ≡ f' → i ≡ i' → slot o d s f i ≡ slot o' d' s' f' i'
same_parts o o' d d' s s' f f' i i' eo ed es ef ei = rw (eo, ed, es, ef, ei) refl

pub equal_slots : (a b : CodeSlot) → a.opcode ≡ b.opcode → a.dst ≡ b.dst → a.src ≡ b.src → a.offset ≡ b.offset → a.immediate ≡ b.immediate → a ≡ b
equal_slots a b eo ed es ef ei = same_parts a.opcode b.opcode a.dst b.dst a.src b.src a.offset b.offset a.immediate b.immediate eo ed es ef ei

pub both : (a b : Bool) → (a && b) ≡ true → (a ≡ true) × (b ≡ true)
both true b e = (refl, e)
both false b e = absurd cc

pub equal_from_same : (a b : CodeSlot) → same_slot a b ≡ true → a ≡ b
equal_from_same a b e =
    let four = both (eqb a.opcode b.opcode && eqb a.dst b.dst && eqb a.src b.src && int_eq a.offset b.offset) (int_eq a.immediate b.immediate) e in
    let three = both (eqb a.opcode b.opcode && eqb a.dst b.dst && eqb a.src b.src) (int_eq a.offset b.offset) four.0 in
    let two = both (eqb a.opcode b.opcode && eqb a.dst b.dst) (eqb a.src b.src) three.0 in
    let one = both (eqb a.opcode b.opcode) (eqb a.dst b.dst) two.0 in
    equal_slots a b (eqb-true _ _ one.0) (eqb-true _ _ one.1) (eqb-true _ _ two.1) ((Decides-int_eq a.offset b.offset).0 three.1) ((Decides-int_eq a.immediate b.immediate).0 four.1)

all_true : (a b c d e : Bool) → a ≡ true → b ≡ true → c ≡ true → d ≡ true → e ≡ true → (a && b && c && d && e) ≡ true
all_true a b c d e pa pb pc pd pe = rw (pa, pb, pc, pd, pe) refl

pub same_itself : (a : CodeSlot) → same_slot a a ≡ true
same_itself a = all_true (eqb a.opcode a.opcode) (eqb a.dst a.dst) (eqb a.src a.src) (int_eq a.offset a.offset) (int_eq a.immediate a.immediate) (eq-eqb a.opcode a.opcode refl) (eq-eqb a.dst a.dst refl) (eq-eqb a.src a.src refl) ((Decides-int_eq a.offset a.offset).1 refl) ((Decides-int_eq a.immediate a.immediate).1 refl)

-- ---- bytes

abbrev pub IsBytes : List ℕ → Type 0
IsBytes bytes = (i : ℕ) → get_or bytes i 0 < 256

pub IsBytes-drop : (n : ℕ) (bytes : List ℕ) → IsBytes bytes → IsBytes (drop n bytes)
IsBytes-drop n bytes h i = rw get_or-drop (h (n + i))

pub two_bytes : (a b : ℕ) → a < 256 → b < 256 → IsBytes (a ∷ b ∷ [])
two_bytes a b fa fb zero = fa
two_bytes a b fa fb (suc zero) = fb
two_bytes a b fa fb (suc (suc i)) = lit< tt

pub four_bytes : (a b c d : ℕ) → a < 256 → b < 256 → c < 256 → d < 256 → IsBytes (a ∷ b ∷ c ∷ d ∷ [])
four_bytes a b c d fa fb fc fd zero = fa
four_bytes a b c d fa fb fc fd (suc zero) = fb
four_bytes a b c d fa fb fc fd (suc (suc zero)) = fc
four_bytes a b c d fa fb fc fd (suc (suc (suc zero))) = fd
four_bytes a b c d fa fb fc fd (suc (suc (suc (suc i)))) = lit< tt

pub below_16 : (bytes : List ℕ) → IsBytes bytes → from_le_bytes w16 bytes < 2 ^ 16
below_16 bytes fits = omega (arith, fits 0, fits 1)

pub below_32 : (bytes : List ℕ) → IsBytes bytes → from_le_bytes w32 bytes < 2 ^ 32
below_32 bytes fits = omega (arith, fits 0, fits 1, fits 2, fits 3)

-- the bytes of a signed number that was read are those that were read
half_back : (bytes : List ℕ) → length bytes ≡ 2 → IsBytes bytes → to_le_bytes w16 (cast_unsigned w16 (cast_signed w16 (from_le_bytes w16 bytes))) ≡ bytes
half_back bytes len fits = ap (to_le_bytes w16) (of_z-to_z w16 (from_le_bytes w16 bytes) (below_16 bytes fits)) ∙ le_bytes_2 bytes _ len fits refl

word_back : (bytes : List ℕ) → length bytes ≡ 4 → IsBytes bytes → to_le_bytes w32 (cast_unsigned w32 (cast_signed w32 (from_le_bytes w32 bytes))) ≡ bytes
word_back bytes len fits = ap (to_le_bytes w32) (of_z-to_z w32 (from_le_bytes w32 bytes) (below_32 bytes fits)) ∙ le_bytes_4 bytes _ len fits refl

half_again : (z : ℤ) → FitsSigned w16 z → cast_signed w16 (from_le_bytes w16 (to_le_bytes w16 (cast_unsigned w16 z))) ≡ z
half_again z fits = ap (cast_signed w16) (from_le_bytes-to_le_bytes_2 (cast_unsigned w16 z) (Fits-of_z {w = w16} fits).fits) ∙ to_z-of_z w16 z fits

word_again : (z : ℤ) → FitsSigned w32 z → cast_signed w32 (from_le_bytes w32 (to_le_bytes w32 (cast_unsigned w32 z))) ≡ z
word_again z fits = ap (cast_signed w32) (from_le_bytes-to_le_bytes_4 (cast_unsigned w32 z) (Fits-of_z {w = w32} fits).fits) ∙ to_z-of_z w32 z fits

-- ---- one slot

pieces : (a b b' : ℕ) (x x' y y' : List ℕ) → b ≡ b' → x ≡ x' → y ≡ y' → a ∷ b ∷ [] ++ x ++ y ≡ a ∷ b' ∷ [] ++ x' ++ y'
pieces a b b' x x' y y' eb ex ey = rw (eb, ex, ey) refl

pub slot_takes : (bytes : List ℕ) → IsBytes bytes → 8 ≤ length bytes → bytes ≡ slot_bytes (slot_at bytes) ++ drop 8 bytes
slot_takes (a ∷ b ∷ c ∷ d ∷ e ∷ f ∷ g ∷ h ∷ rest) fits long =
    let halves : b % 16 + 16 * (b / 16) ≡ b = omega arith in
    let offset = half_back (c ∷ d ∷ []) refl (two_bytes c d (fits 2) (fits 3)) in
    let immediate = word_back (e ∷ f ∷ g ∷ h ∷ []) refl (four_bytes e f g h (fits 4) (fits 5) (fits 6) (fits 7)) in
    let front = pieces a (b % 16 + 16 * (b / 16)) b (to_le_bytes w16 (cast_unsigned w16 (cast_signed w16 (from_le_bytes w16 (c ∷ d ∷ []))))) (c ∷ d ∷ []) (to_le_bytes w32 (cast_unsigned w32 (cast_signed w32 (from_le_bytes w32 (e ∷ f ∷ g ∷ h ∷ []))))) (e ∷ f ∷ g ∷ h ∷ []) halves offset immediate in
    sym (ap (λ (x : List ℕ). x ++ rest) front)
slot_takes bytes fits long = absurd (omega arith)

pub slot_fits : (bytes : List ℕ) → IsBytes bytes → SlotFits (slot_at bytes)
slot_fits bytes fits = record {
  opcode = fits 0;
  dst = omega arith;
  src = omega (arith, fits 1);
  offset = sfits_to_z {w = w16} (record { fits = below_16 (get_or bytes 2 0 ∷ get_or bytes 3 0 ∷ []) (two_bytes _ _ (fits 2) (fits 3)) });
  immediate = sfits_to_z {w = w32} (record { fits = below_32 (get_or bytes 4 0 ∷ get_or bytes 5 0 ∷ get_or bytes 6 0 ∷ get_or bytes 7 0 ∷ []) (four_bytes _ _ _ _ (fits 4) (fits 5) (fits 6) (fits 7)) });
}

pub slot_again : (s : CodeSlot) (rest : List ℕ) → SlotFits s → slot_at (slot_bytes s ++ rest) ≡ s
slot_again s rest fits =
    let dst : (s.dst + 16 * s.src) % 16 ≡ s.dst = omega (arith, fits.dst) in
    let src : (s.dst + 16 * s.src) / 16 ≡ s.src = omega (arith, fits.dst) in
    equal_slots (slot_at (slot_bytes s ++ rest)) s refl dst src (half_again s.offset fits.offset) (word_again s.immediate fits.immediate)

-- ---- slots one after the other

pub slots_take : (n : ℕ) (bytes : List ℕ) → IsBytes bytes → length bytes ≡ 8 * n → bytes ≡ flat_map slot_bytes (slots_at n bytes)
unfolding slots_at
slots_take zero [] fits long = refl
slots_take zero (b ∷ bytes) fits long = absurd (omega arith)
slots_take (suc n) bytes fits long =
    let others = slots_take n (drop 8 bytes) (IsBytes-drop 8 bytes fits) (omega (arith, length-drop 8 bytes)) in
    slot_takes bytes fits (omega arith) ∙ ap (λ (x : List ℕ). slot_bytes (slot_at bytes) ++ x) others

pub slots_fit : (n : ℕ) (bytes : List ℕ) → IsBytes bytes → AllByRecursion SlotFits (slots_at n bytes)
unfolding slots_at
slots_fit zero bytes fits = tt
slots_fit (suc n) bytes fits = (slot_fits bytes fits, slots_fit n (drop 8 bytes) (IsBytes-drop 8 bytes fits))

pub slots_again : (slots : List CodeSlot) → AllByRecursion SlotFits slots → slots_at (length slots) (flat_map slot_bytes slots) ≡ slots
unfolding slots_at
slots_again [] fits = refl
slots_again (s ∷ slots) fits = rw (slot_again s (flat_map slot_bytes slots) fits.0) (ap (λ (x : List CodeSlot). s ∷ x) (slots_again slots fits.1))
