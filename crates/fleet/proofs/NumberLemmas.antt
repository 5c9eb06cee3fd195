-- Numbers of commands in a part, while the capture is read.
use Rattle.std.proofs.Common.{◌≡◌, ℕ, zero, suc, ◌+◌, ◌-◌, ◌<◌, ◌≤◌, Bool, true, false, cond, List, [], ◌∷◌, ◌++◌, Option, length, take, get_or, map, refl, sym, ap, ◌∙◌, arith, append_assoc, length-append}
use Rattle.std.specs.Prelude.{slice_index}
use Rattle.std.specs.List.{AllByRecursion}
use Rattle.std.proofs.lemmas.List.{get_or-append_right, length-map, map-append, take_at, take_more}
use Rattle.wire.specs.declared.records.Sent.{Sent}
use Rattle.fleet.specs.declared.numbering.Numbering.{Numbering}
use Rattle.fleet.specs.declared.part.Loss.{Loss}
use Rattle.fleet.specs.declared.part.Part.{Part}
use Rattle.fleet.specs.Parts.{is_in_part, number_in_part, records_behind, records_of_part}
use Rattle.fleet.specs.Numbers.{AreNumbered, NeverFall}
use Rattle.fleet.proofs.shared.PartLemmas.{fewer, number_before, number_behind, part_of_pieces}

-- ---- the next command

-- the frame behind those that are done
next_is : (done left frames : List ℕ) (count : ℕ) → frames ≡ done ++ left → count ≡ length done → slice_index frames count ≡ get_or left 0 0
next_is done left frames count parts long =
    let none : count - length done ≡ 0 = omega (arith, long) in
    ap (λ (xs : List ℕ). get_or xs count 0) parts ∙ get_or-append_right done left (length done) count 0 refl (omega (arith, long)) ∙ ap (λ i. get_or left i 0) none

as_many : (frames : List ℕ) (past : List Sent) (n : Numbering) (are : AreNumbered frames past n) → length n.numbers.items ≡ length are.done
as_many frames past n are = ap length are.numbers ∙ length-map are.done (number_in_part n.part.of n.part.lost n.part.number past)

lengths : (frames : List ℕ) (past : List Sent) (n : Numbering) (are : AreNumbered frames past n) → length frames ≡ length n.numbers.items + length are.left
lengths frames past n are =
    let whole = ap length are.frames_are ∙ length-append are.done are.left in
    let many = as_many frames past n are in
    omega (arith, whole, many)

-- no more records are in the part than there are
pub taken_few : (frames : List ℕ) (past : List Sent) (n : Numbering) → AreNumbered frames past n → n.taken ≤ n.passed
taken_few frames past n are =
    let few = fewer (is_in_part n.part.of n.part.lost n.part.number) past in
    let taken = are.taken in
    let passed = are.passed in
    omega (arith, few, taken, passed)

first_late : (least : ℕ) (left : List ℕ) → NeverFall least left → 0 < length left → least ≤ get_or left 0 0
first_late least [] never some = absurd (omega (arith, some))
first_late least (frame ∷ left) never some = never.0

-- the next command comes behind the records that were passed
pub next_late : (frames : List ℕ) (past : List Sent) (n : Numbering) → AreNumbered frames past n → length n.numbers.items < length frames
    → n.passed ≤ slice_index frames (length n.numbers.items)
next_late frames past n are within =
    let long = lengths frames past n are in
    let at = next_is are.done are.left frames (length n.numbers.items) are.frames_are (as_many frames past n are) in
    let late = first_late (length past) are.left are.later (omega (arith, long, within)) in
    let passed = are.passed in
    omega (arith, at, late, passed)

-- ---- more records

raised : (least higher : ℕ) (left : List ℕ) → NeverFall least left → (0 < length left → higher ≤ get_or left 0 0) → NeverFall higher left
raised least higher [] never late = tt
raised least higher (frame ∷ left) never late = (late (omega arith), never.1)

same_numbers : (of : ℕ) (lost : Option Loss) (number : ℕ) (past more : List Sent) (done : List ℕ) → AllByRecursion (λ frame. frame ≤ length past) done
    → map (number_in_part of lost number past) done ≡ map (number_in_part of lost number (past ++ more)) done
same_numbers of lost number past more [] early = refl
same_numbers of lost number past more (frame ∷ done) early =
    ap (λ n. n ∷ map (number_in_part of lost number past) done) (sym (number_before of lost number past more frame early.0))
    ∙ ap (λ ns. number_in_part of lost number (past ++ more) frame ∷ ns) (same_numbers of lost number past more done early.1)

still_early : (past more : List Sent) (done : List ℕ) → AllByRecursion (λ frame. frame ≤ length past) done
    → AllByRecursion (λ frame. frame ≤ length (past ++ more)) done
still_early past more [] early = tt
still_early past more (frame ∷ done) early =
    let long = length-append past more in
    let first = early.0 in
    (omega (arith, long, first), still_early past more done early.1)

gone_past : (frames : List ℕ) (past more : List Sent) (n m : Numbering) → AreNumbered frames past n
    → (length n.numbers.items < length frames → n.passed + length more ≤ slice_index frames (length n.numbers.items))
    → m.part ≡ n.part → m.numbers.items ≡ n.numbers.items → m.passed ≡ n.passed + length more
    → m.taken ≡ n.taken + length (records_behind n.part.of n.part.lost n.part.number n.passed more) → AreNumbered frames (past ++ more) m
gone_past frames past more n m are late part numbers passed taken = record {
  done = are.done;
  left = are.left;
  frames_are = are.frames_are;
  numbers = numbers ∙ are.numbers ∙ same_numbers n.part.of n.part.lost n.part.number past more are.done are.early
      ∙ ap (λ (p : Part). map (number_in_part p.of p.lost p.number (past ++ more)) are.done) (sym part);
  later = raised (length past) (length (past ++ more)) are.left are.later
      (λ some.
      let long = lengths frames past n are in
      let at = next_is are.done are.left frames (length n.numbers.items) are.frames_are (as_many frames past n are) in
      let behind = late (omega (arith, long, some)) in
      let both = length-append past more in
      let were = are.passed in
      omega (arith, at, behind, both, were));
  passed = (let both = length-append past more in let were = are.passed in omega (arith, passed, both, were));
  taken = taken ∙ ap (λ k. k + length (records_behind n.part.of n.part.lost n.part.number n.passed more)) are.taken
      ∙ ap (λ k. length (records_of_part n.part.of n.part.lost n.part.number past) + length (records_behind n.part.of n.part.lost n.part.number k more)) are.passed
      ∙ sym (length-append (records_of_part n.part.of n.part.lost n.part.number past)
      (records_behind n.part.of n.part.lost n.part.number (length past) more))
      ∙ ap length (sym (part_of_pieces n.part.of n.part.lost n.part.number past more))
      ∙ ap (λ (p : Part). length (records_of_part p.of p.lost p.number (past ++ more))) (sym part);
  early = still_early past more are.done are.early;
}

-- ---- one number more

early_more : (past : List Sent) (done : List ℕ) (frame : ℕ) → AllByRecursion (λ one. one ≤ length past) done → frame ≤ length past
    → AllByRecursion (λ one. one ≤ length past) (done ++ frame ∷ [])
early_more past [] frame early one = (one, tt)
early_more past (first ∷ done) frame early one = (early.0, early_more past done frame early.1 one)

pub noted : (frames : List ℕ) (past : List Sent) (n m : Numbering) → AreNumbered frames past n → length n.numbers.items < length frames
    → slice_index frames (length n.numbers.items) ≡ n.passed → m.part ≡ n.part → m.numbers.items ≡ n.numbers.items ++ n.taken ∷ []
    → m.passed ≡ n.passed → m.taken ≡ n.taken → AreNumbered frames past m
noted frames past n m are within due part numbers passed taken =
    let at = next_is are.done are.left frames (length n.numbers.items) are.frames_are (as_many frames past n are) in
    by are.left are.frames_are are.later (omega (arith, lengths frames past n are, within)) (sym at ∙ due ∙ are.passed)
  where
    by : (left : List ℕ) → frames ≡ are.done ++ left → NeverFall (length past) left → 0 < length left → get_or left 0 0 ≡ length past
        → AreNumbered frames past m
    by [] parts later some here = absurd (omega (arith, some))
    by (frame ∷ left) parts later some here = record {
      done = are.done ++ frame ∷ [];
      left = left;
      frames_are = parts ∙ sym (append_assoc are.done (frame ∷ []) left);
      numbers = numbers
          ∙ ap (λ ns. ns ++ n.taken ∷ []) are.numbers
          ∙ ap (λ k. map (number_in_part n.part.of n.part.lost n.part.number past) are.done ++ k ∷ [])
          (are.taken ∙ sym (number_behind n.part.of n.part.lost n.part.number past frame (omega (arith, here))))
          ∙ sym (map-append (number_in_part n.part.of n.part.lost n.part.number past) are.done (frame ∷ []))
          ∙ ap (λ (p : Part). map (number_in_part p.of p.lost p.number past) (are.done ++ frame ∷ [])) (sym part);
      later = raised frame (length past) left later.1 (λ more. let first = first_late frame left later.1 more in omega (arith, here, first));
      passed = passed ∙ are.passed;
      taken = taken ∙ are.taken ∙ ap (λ (p : Part). length (records_of_part p.of p.lost p.number past)) (sym part);
      early = early_more past are.done frame are.early (omega (arith, here));
    }

-- ---- behind the last record

each_late : (least : ℕ) (left : List ℕ) (place : ℕ) → NeverFall least left → place < length left → least ≤ get_or left place 0
each_late least [] place never within = absurd (omega (arith, within))
each_late least (frame ∷ left) zero never within = never.0
each_late least (frame ∷ left) (suc place) never within =
    let later = each_late frame left place never.1 (omega (arith, within)) in
    let first = never.0 in
    omega (arith, later, first)

-- each command that is left comes behind all records
pub left_late : (frames : List ℕ) (past : List Sent) (n : Numbering) (place : ℕ) → AreNumbered frames past n → length n.numbers.items ≤ place
    → place < length frames → length past ≤ slice_index frames place
left_late frames past n place are from within =
    let many = as_many frames past n are in
    let long = lengths frames past n are in
    let at = ap (λ (xs : List ℕ). get_or xs place 0) are.frames_are
    ∙ get_or-append_right are.done are.left (length are.done) place 0 refl (omega (arith, many, from)) in
    let late = each_late (length past) are.left (place - length are.done) are.later (omega (arith, many, long, from, within)) in
    omega (arith, at, late)

-- the numbers so far
pub numbers_so_far : (frames : List ℕ) (past : List Sent) (n : Numbering) → AreNumbered frames past n
    → n.numbers.items ≡ map (number_in_part n.part.of n.part.lost n.part.number past) (take (length n.numbers.items) frames)
numbers_so_far frames past n are =
    are.numbers
    ∙ ap (map (number_in_part n.part.of n.part.lost n.part.number past)) (sym (ap (take (length n.numbers.items)) are.frames_are
    ∙ take_at are.done are.left (length n.numbers.items) (sym (as_many frames past n are))))

-- and one more behind all records
pub one_behind : (of : ℕ) (lost : Option Loss) (number : ℕ) (frames : List ℕ) (past : List Sent) (place : ℕ) → place < length frames → length past ≤ slice_index frames place
    → map (number_in_part of lost number past) (take (place + 1) frames)
    ≡ map (number_in_part of lost number past) (take place frames) ++ length (records_of_part of lost number past) ∷ []
one_behind of lost number frames past place within late =
    ap (map (number_in_part of lost number past)) (take_more frames place 0 within)
    ∙ map-append (number_in_part of lost number past) (take place frames) (slice_index frames place ∷ [])
    ∙ ap (λ k. map (number_in_part of lost number past) (take place frames) ++ k ∷ []) (number_behind of lost number past (slice_index frames place) late)

-- ---- one record more

one_of : (has : Bool) (sent : Sent) → length (cond has (sent ∷ []) []) ≡ cond has 1 0
one_of true sent = refl
one_of false sent = refl

none_before : (n : ℕ) → n ≡ 0 + n
none_before n = omega arith

-- the next record was passed, and counted if it is in the part
pub gone_past_one : (frames : List ℕ) (past : List Sent) (sent : Sent) (n m : Numbering) (has : Bool) → AreNumbered frames past n
    → (length n.numbers.items < length frames → n.passed < slice_index frames (length n.numbers.items))
    → has ≡ is_in_part n.part.of n.part.lost n.part.number n.passed sent
    → m.part ≡ n.part → m.numbers.items ≡ n.numbers.items → m.passed ≡ n.passed + 1
    → m.taken ≡ n.taken + cond has 1 0 → AreNumbered frames (past ++ sent ∷ []) m
gone_past_one frames past sent n m has are late is part numbers passed taken =
    gone_past frames past (sent ∷ []) n m are (λ some. let behind = late some in omega (arith, behind)) part numbers passed
    (taken
    ∙ ap (λ (b : Bool). n.taken + cond b 1 0)
    (is ∙ ap (λ (k : ℕ). is_in_part n.part.of n.part.lost n.part.number k sent) (none_before n.passed))
    ∙ ap (λ (k : ℕ). n.taken + k) (sym (one_of (is_in_part n.part.of n.part.lost n.part.number (0 + n.passed) sent) sent)))
