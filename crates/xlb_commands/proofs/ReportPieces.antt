-- The lines of a report, piece after piece: they are those of the whole capture.
use Rattle.std.proofs.Common.{arith, ◌≡◌, ◌∙◌, ◌<◌, ◌≤◌, ◌+◌, ◌++◌, ℕ, zero, suc, Bool, true, false, List, [], ◌∷◌, Option, Some, None}
use Rattle.std.proofs.Common.{ap, ap₂, append-nil, append_assoc, length-append, refl, sym, subst, length}
use Rattle.std.proofs.Common.{⊎_elim, ◌*◌}
use Rattle.std.specs.Prelude.{if◌then◌else◌, slice_get}
use Rattle.std.proofs.lemmas.Bool.{cases_eq}
use Rattle.wire.specs.declared.records.Sent.{Sent}
use Rattle.control.specs.declared.command.Command.{Command}
use Rattle.traffic.specs.Counting.{one_if}
use Rattle.traffic.specs.declared.record_line.ReportForm.{ReportForm}
use Rattle.actors.specs.declared.outcome.ToldEnd.{ToldEnd}
use Rattle.traffic.specs.RecordLines.{line_of_pieces}
use Rattle.xlb_commands.specs.RecordReports.{backend_at, case_in, choice_in, end_of, is_sent, line_of_record, line_text, lines_until, sent_address, sent_before}
use Rattle.xlb_commands.specs.RecordReports.{steps_of_end, target_in, verdict_in, worker_in}

pub from_none : (n : ℕ) → 0 + n ≡ n
from_none n = omega arith

pub suc_left : (n m : ℕ) → suc n + m ≡ suc (n + m)
suc_left n m = omega arith

suc_right : (n m : ℕ) → n + suc m ≡ suc (n + m)
suc_right n m = omega arith

-- ---- two lists, one behind the other

get_before : {A : Type 0} (xs ys : List A) (place : ℕ) → place < length xs → slice_get (xs ++ ys) place ≡ slice_get xs place
get_before [] ys place below = absurd (omega (arith, below))
get_before (x ∷ xs) ys zero below = refl
get_before (x ∷ xs) ys (suc place) below = get_before xs ys place (omega (arith, below))

get_behind : {A : Type 0} (xs ys : List A) (place : ℕ) → slice_get (xs ++ ys) (length xs + place) ≡ slice_get ys place
get_behind [] ys place = ap (λ (n : ℕ). slice_get ys n) (from_none place)
get_behind (x ∷ xs) ys place = ap (λ (n : ℕ). slice_get (x ∷ (xs ++ ys)) n) (suc_left (length xs) place) ∙ get_behind xs ys place

end_before : (ends later : List ToldEnd) (place : ℕ) → place < length ends → end_of (ends ++ later) place ≡ end_of ends place
end_before [] later place below = absurd (omega (arith, below))
end_before (end ∷ ends) later zero below = refl
end_before (end ∷ ends) later (suc place) below = end_before ends later place (omega (arith, below))

end_behind : (ends later : List ToldEnd) (place : ℕ) → end_of (ends ++ later) (length ends + place) ≡ end_of later place
end_behind [] later place = ap (λ (n : ℕ). end_of later n) (from_none place)
end_behind (end ∷ ends) later place = ap (λ (n : ℕ). end_of (end ∷ (ends ++ later)) n) (suc_left (length ends) place) ∙ end_behind ends later place

-- how many were sent
sent_up_to : (ends later : List ToldEnd) (count : ℕ) → count ≤ length ends → sent_before (ends ++ later) count ≡ sent_before ends count
sent_up_to ends later zero within = refl
sent_up_to ends later (suc count) within =
    ap₂ (◌+◌) (sent_up_to ends later count (omega (arith, within)))
    (ap (λ (end : ToldEnd). one_if (is_sent end)) (end_before ends later count (omega (arith, within))))

pub sent_behind : (ends later : List ToldEnd) (count : ℕ)
    → sent_before (ends ++ later) (length ends + count) ≡ sent_before ends (length ends) + sent_before later count
sent_behind ends later zero =
    ap (λ (n : ℕ). sent_before (ends ++ later) n) (omega arith) ∙ (sent_up_to ends later (length ends) (omega arith) ∙ omega arith)
sent_behind ends later (suc count) =
    ap (λ (n : ℕ). sent_before (ends ++ later) n) (suc_right (length ends) count)
    ∙ (ap₂ (◌+◌) (sent_behind ends later count) (ap (λ (end : ToldEnd). one_if (is_sent end)) (end_behind ends later count))
    ∙ plus_assoc (sent_before ends (length ends)) (sent_before later count) (one_if (is_sent (end_of later count))))
  where
    plus_assoc : (a b c : ℕ) → (a + b) + c ≡ a + (b + c)
    plus_assoc a b c = omega arith

-- a record that was sent has its frame among those that were sent
sent_within : (ends : List ToldEnd) (place count : ℕ) → place < count
    → sent_before ends place + one_if (is_sent (end_of ends place)) ≤ sent_before ends count
sent_within ends place zero below = absurd (omega (arith, below))
sent_within ends place (suc count) below = ⊎_elim (λ (same : place ≡ count). subst (λ (n : ℕ). sent_before ends place + one_if (is_sent (end_of ends place))
    ≤ sent_before ends n + one_if (is_sent (end_of ends n))) same (omega arith))
    (λ (apart : place ≡ count → ⊥). omega (arith, sent_within ends place count (lower apart))) (cases_eq place count)
  where
    lower : (place ≡ count → ⊥) → place < count
    lower apart = omega (arith, below, apart)

-- ---- lines

-- the frame of a record that was not sent is in no line
same_target : (end : ToldEnd) (one other : Option Sent) → (is_sent end ≡ true → one ≡ other) → sent_address end one ≡ sent_address end other
same_target end one other same = by_test (is_sent end) same
  where
    by_test : (sent : Bool) → (sent ≡ true → one ≡ other) → (if sent then target_in one else None) ≡ (if sent then target_in other else None)
    by_test true same = ap target_in (same refl)
    by_test false same = refl

module _ (form : ReportForm) (is_shipped : Bool) (script : List Command) where
  line_with : ℕ → Sent → ToldEnd → Option ℕ → List ℕ
  line_with number captured end address =
      line_of_pieces form (number + 1) (captured.seconds * 1000000 + captured.micros) (worker_in end) (verdict_in end) (steps_of_end end)
      (case_in is_shipped captured.bytes.items end) (backend_at script number address) address (choice_in is_shipped end)
      captured.bytes.items

  same_line : (number : ℕ) (captured : Sent) (end : ToldEnd) (one other : Option Sent) → (is_sent end ≡ true → one ≡ other)
      → line_text form is_shipped script number captured end one ≡ line_text form is_shipped script number captured end other
  unfolding line_with
  same_line number captured end one other same =
      ap (λ (address : Option ℕ). line_with number captured end address) (same_target end one other same)

  -- records with their ends and what was sent of them, and others behind them
  module _ (first : ℕ) (xs ys : List Sent) (es fs : List ToldEnd) (ss ts : List Sent) (ends_are : length es ≡ length xs)
      (sent_are : length ss ≡ sent_before es (length es)) where
    line_before : (number : ℕ) → number < length xs → (found : Option Sent)
        → line_of_record form is_shipped script first (es ++ fs) (ss ++ ts) number found
        ≡ line_of_record form is_shipped script first es ss number found
    line_before number below None = refl
    line_before number below (Some captured) =
        ap (λ (end : ToldEnd). line_text form is_shipped script (first + number) captured end
        (slice_get (ss ++ ts) (sent_before (es ++ fs) number))) (end_before es fs number (omega (arith, below, ends_are)))
        ∙ (ap (λ (place : ℕ). line_text form is_shipped script (first + number) captured (end_of es number) (slice_get (ss ++ ts) place))
        (sent_up_to es fs number (omega (arith, below, ends_are)))
        ∙ same_line (first + number) captured (end_of es number) _ _ (λ sent. get_before ss ts (sent_before es number) (within sent)))
      where
        within : is_sent (end_of es number) ≡ true → sent_before es number < length ss
        within sent =
            let one : one_if (is_sent (end_of es number)) ≡ 1 = ap one_if sent in
            omega (arith, one, sent_are, sent_within es number (length es) (omega (arith, below, ends_are)))

    lines_before : (count : ℕ) → count ≤ length xs
        → lines_until form is_shipped script first (xs ++ ys) (es ++ fs) (ss ++ ts) count
        ≡ lines_until form is_shipped script first xs es ss count
    lines_before zero within = refl
    lines_before (suc count) within =
        ap₂ (◌++◌) (lines_before count (omega (arith, within)))
        (ap (λ (found : Option Sent). line_of_record form is_shipped script first (es ++ fs) (ss ++ ts) count found)
        (get_before xs ys count (omega (arith, within)))
        ∙ line_before count (omega (arith, within)) (slice_get xs count))

    line_behind : (number : ℕ) (found : Option Sent)
        → line_of_record form is_shipped script first (es ++ fs) (ss ++ ts) (length xs + number) found
        ≡ line_of_record form is_shipped script (first + length xs) fs ts number found
    line_behind number None = refl
    line_behind number (Some captured) =
        ap (λ (end : ToldEnd). line_text form is_shipped script (first + (length xs + number)) captured end
        (slice_get (ss ++ ts) (sent_before (es ++ fs) (length xs + number))))
        (ap (λ (n : ℕ). end_of (es ++ fs) (n + number)) (sym ends_are) ∙ end_behind es fs number)
        ∙ (ap (λ (found : Option Sent). line_text form is_shipped script (first + (length xs + number)) captured (end_of fs number) found)
        (ap (λ (place : ℕ). slice_get (ss ++ ts) place) place_is ∙ get_behind ss ts (sent_before fs number))
        ∙ ap (λ (n : ℕ). line_text form is_shipped script n captured (end_of fs number) (slice_get ts (sent_before fs number))) number_is)
      where
        place_is : sent_before (es ++ fs) (length xs + number) ≡ length ss + sent_before fs number
        place_is = ap (λ (n : ℕ). sent_before (es ++ fs) (n + number)) (sym ends_are)
            ∙ (sent_behind es fs number ∙ ap (λ (n : ℕ). n + sent_before fs number) (sym sent_are))

        number_is : first + (length xs + number) ≡ (first + length xs) + number
        number_is = omega arith

    lines_behind : (count : ℕ)
        → lines_until form is_shipped script first (xs ++ ys) (es ++ fs) (ss ++ ts) (length xs + count)
        ≡ lines_until form is_shipped script first (xs ++ ys) (es ++ fs) (ss ++ ts) (length xs)
        ++ lines_until form is_shipped script (first + length xs) ys fs ts count
    lines_behind zero =
        ap (λ (n : ℕ). lines_until form is_shipped script first (xs ++ ys) (es ++ fs) (ss ++ ts) n) none_more
        ∙ sym (append-nil (lines_until form is_shipped script first (xs ++ ys) (es ++ fs) (ss ++ ts) (length xs)))
      where
        none_more : length xs + 0 ≡ length xs
        none_more = omega arith
    lines_behind (suc count) =
        ap (λ (n : ℕ). lines_until form is_shipped script first (xs ++ ys) (es ++ fs) (ss ++ ts) n) (suc_right (length xs) count)
        ∙ (ap₂ (◌++◌) (lines_behind count)
        (ap (λ (found : Option Sent). line_of_record form is_shipped script first (es ++ fs) (ss ++ ts) (length xs + count) found)
        (get_behind xs ys count) ∙ line_behind count (slice_get ys count))
        ∙ append_assoc (lines_until form is_shipped script first (xs ++ ys) (es ++ fs) (ss ++ ts) (length xs))
        (lines_until form is_shipped script (first + length xs) ys fs ts count) _)

    -- the lines of both are those of the first ones and those of the later ones
    pub lines_of_both : lines_until form is_shipped script first (xs ++ ys) (es ++ fs) (ss ++ ts) (length (xs ++ ys))
        ≡ lines_until form is_shipped script first xs es ss (length xs)
        ++ lines_until form is_shipped script (first + length xs) ys fs ts (length ys)
    lines_of_both =
        ap (λ (n : ℕ). lines_until form is_shipped script first (xs ++ ys) (es ++ fs) (ss ++ ts) n) (length-append xs ys)
        ∙ (lines_behind (length ys)
        ∙ ap (λ (text : List ℕ). text ++ lines_until form is_shipped script (first + length xs) ys fs ts (length ys))
        (lines_before (length xs) (omega arith)))
