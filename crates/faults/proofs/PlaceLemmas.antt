-- Places in lines behind one another, and lines with two blanks before each.
use Rattle.std.proofs.Common.{◌≡◌, ◌∙◌, ◌<◌, ◌+◌, ℕ, zero, suc, Bool, true, false, cond, List, [], ◌∷◌, ◌++◌, length, take, drop, slice_index_or, refl, sym, ap, arith, append_assoc}
use Rattle.std.specs.Prelude.{◌==◌, if◌then◌else◌}
use Rattle.faults.specs.declared.refusal.Place.{Place}
use Rattle.faults.specs.declared.refusal.Place.TheVariants.{LineStart, Blank, Within, Wrong}
use Rattle.faults.specs.Refusals.{AreNotes, IsRefusalText, front_of, indented, is_line_start, next_place, note_lines, one_line, place_after}

-- one byte more
pub one_further : (place : Place) (bytes : List ℕ) (index : ℕ) → index < length bytes
    → place_after place (take (suc index) bytes) ≡ next_place (place_after place (take index bytes)) (slice_index_or bytes index 0)
one_further place [] index below = absurd (omega (arith, below))
one_further place (byte ∷ bytes) zero below = refl
one_further place (byte ∷ bytes) (suc index) below = one_further (next_place place byte) bytes index (omega (arith, below))

-- where the next byte is: at the front of a line, or behind the blanks of one
place_of_start : Bool → Place
place_of_start true = LineStart
place_of_start false = Within

start_by : (ends : Bool) → (if ends then LineStart else Within) ≡ place_of_start ends
unfolding place_of_start
start_by true = refl
start_by false = refl

indented_from : (is_start : Bool) (notes : List ℕ) → place_after (place_of_start is_start) (indented is_start notes) ≡ LineStart
unfolding place_of_start
indented_from true [] = refl
indented_from false [] = refl
indented_from true (byte ∷ rest) = ap (λ (place : Place). place_after place (indented (byte == 10) rest)) (start_by (byte == 10)) ∙ indented_from (byte == 10) rest
indented_from false (byte ∷ rest) = ap (λ (place : Place). place_after place (indented (byte == 10) rest)) (start_by (byte == 10)) ∙ indented_from (byte == 10) rest

at_start : (place : Place) → is_line_start place ≡ true → place ≡ LineStart
at_start LineStart is = refl
at_start Blank is = cc
at_start Within is = cc
at_start Wrong is = cc

as_they_are : (test : Bool) (notes : List ℕ) → is_line_start (place_after LineStart notes) ≡ test → AreNotes (cond test notes (indented true notes))
unfolding place_of_start
as_they_are true notes is = at_start (place_after LineStart notes) is
as_they_are false notes is = indented_from true notes

-- what notes become is lines that each begin with two blanks
pub lines_are_notes : (notes : List ℕ) → AreNotes (note_lines notes)
lines_are_notes notes = as_they_are _ notes refl

one_dropped : (notes : List ℕ) (index : ℕ) → index < length notes → drop index notes ≡ slice_index_or notes index 0 ∷ drop (suc index) notes
one_dropped [] index below = absurd (omega (arith, below))
one_dropped (byte ∷ notes) zero below = refl
one_dropped (byte ∷ notes) (suc index) below = one_dropped notes index (omega (arith, below))

-- a byte more is indented
pub one_indented : (lines notes whole : List ℕ) (is_start : Bool) (index : ℕ) → index < length notes → lines ++ indented is_start (drop index notes) ≡ whole
    → ((lines ++ front_of is_start) ++ slice_index_or notes index 0 ∷ []) ++ indented (slice_index_or notes index 0 == 10) (drop (index + 1) notes) ≡ whole
one_indented lines notes whole is_start index below is =
    let byte = slice_index_or notes index 0 in
    let next : suc index ≡ index + 1 = omega arith in
    append_assoc (lines ++ front_of is_start) (byte ∷ []) (indented (byte == 10) (drop (index + 1) notes))
    ∙ (append_assoc lines (front_of is_start) (byte ∷ indented (byte == 10) (drop (index + 1) notes))
    ∙ (ap (λ (rest : List ℕ). lines ++ indented is_start rest) (sym (one_dropped notes index below ∙ ap (λ (n : ℕ). byte ∷ drop n notes) next)) ∙ is))

-- the fault's line and the notes' lines behind it
pub told : (fault notes text : List ℕ) → text ≡ (one_line fault ++ 10 ∷ []) ++ note_lines notes → IsRefusalText fault notes text
told fault notes text is = record {
  below = note_lines notes;
  are_notes = lines_are_notes notes;
  are_of_notes = refl;
  is = is ∙ append_assoc (one_line fault) (10 ∷ []) (note_lines notes);
}
