-- Which part a record is in where one can be lost.
use Rattle.std.proofs.Common.{◌≡◌, ℕ, ◌+◌, ◌-◌, ◌<◌, ◌≤◌, Bool, true, false, cond, List, Option, Some, None, refl, sym, ap, ◌∙◌, arith}
use Rattle.std.specs.Prelude.{◌≢◌, ◌↔◌, ◌==◌, nat_lt}
use Rattle.std.proofs.lemmas.Bool.{cases_lt, eqb-false, le-ltb, lt-ltb, ne_eqb}
use mathlib.Core.Logic.{⊎_elim}
use Rattle.wire.specs.declared.records.Sent.{Sent}
use Rattle.wire.specs.FlowForm.{flow_bytes_of}
use Rattle.fleet.specs.declared.part.Loss.{Loss}
use Rattle.fleet.specs.Parts.{CanLose, has_flow_key, heir_of_frame, heir_place, other_part, part_behind, part_by, part_of_frame, part_of_record, salt}
use Rattle.fleet.specs.Parts.{second_salt}

-- each frame is in one of the parts
pub part_below : (of : ℕ) (frame : List ℕ) → 0 < of → part_of_frame of frame < of
part_below of frame some = by_test (has_flow_key frame) where
  by_test : (test : Bool) → cond test (part_by salt of (flow_bytes_of frame)) 0 < of
  by_test true = omega (arith, some)
  by_test false = some

place_below : (others : ℕ) (frame : List ℕ) → 0 < others → heir_place others frame < others
place_below others frame some = by_test (has_flow_key frame) where
  by_test : (test : Bool) → cond test (part_by second_salt others (flow_bytes_of frame)) 0 < others
  by_test true = omega (arith, some)
  by_test false = some

other_below : (of lost place : ℕ) → place < of - 1 → other_part lost place < of
other_below of lost place lt = by_test (nat_lt place lost) where
  by_test : (test : Bool) → cond test place (place + 1) < of
  by_test true = omega (arith, lt)
  by_test false = omega (arith, lt)

behind_below : (of lost : ℕ) (frame : List ℕ) → 1 < of → part_behind of lost frame < of
behind_below of lost frame two = by_test (part_of_frame of frame == lost) where
  by_test : (test : Bool) → cond test (heir_of_frame of lost frame) (part_of_frame of frame) < of
  by_test true = other_below of lost (heir_place (of - 1) frame) (place_below (of - 1) frame (omega (arith, two)))
  by_test false = part_below of frame (omega (arith, two))

-- each record is in one of the parts
pub record_below : (of : ℕ) (lost : Option Loss) → 0 < of → CanLose of lost → (place : ℕ) (sent : Sent) → part_of_record of lost place sent < of
record_below of None some can place sent = part_below of sent.bytes.items some
record_below of (Some loss) some can place sent = by_test (nat_lt place loss.from) where
  by_test : (test : Bool) → cond test (part_of_frame of sent.bytes.items) (part_behind of loss.part sent.bytes.items) < of
  by_test true = part_below of sent.bytes.items some
  by_test false = behind_below of loss.part sent.bytes.items (can loss refl).1

-- ---- behind a loss

-- the part at a place among the others, before and behind the lost one
other_before : (lost place : ℕ) → place < lost → other_part lost place ≡ place
other_before lost place lt = ap (λ b. cond b place (place + 1)) (lt-ltb place lost lt)

other_behind : (lost place : ℕ) → lost ≤ place → other_part lost place ≡ place + 1
other_behind lost place ge = ap (λ b. cond b place (place + 1)) (le-ltb place lost ge)

other_differs : (lost place : ℕ) → other_part lost place ≢ lost
other_differs lost place same = ⊎_elim
    (λ lt. let it = other_before lost place lt in omega (arith, it, same, lt))
    (λ ge. let it = other_behind lost place ge in omega (arith, it, same, ge))
    (cases_lt place lost)

-- where a record is before a loss, and behind it
at_before : (of : ℕ) (loss : Loss) (place : ℕ) (sent : Sent) → place < loss.from
    → part_of_record of (Some loss) place sent ≡ part_of_frame of sent.bytes.items
at_before of loss place sent lt =
    ap (λ b. cond b (part_of_frame of sent.bytes.items) (part_behind of loss.part sent.bytes.items)) (lt-ltb place loss.from lt)

at_behind : (of : ℕ) (loss : Loss) (place : ℕ) (sent : Sent) → loss.from ≤ place
    → part_of_record of (Some loss) place sent ≡ part_behind of loss.part sent.bytes.items
at_behind of loss place sent ge =
    ap (λ b. cond b (part_of_frame of sent.bytes.items) (part_behind of loss.part sent.bytes.items)) (le-ltb place loss.from ge)

-- none is in the lost part
behind_differs : (of lost : ℕ) (frame : List ℕ) → part_behind of lost frame ≢ lost
behind_differs of lost frame = by_test (part_of_frame of frame == lost) refl where
  by_test : (test : Bool) → (part_of_frame of frame == lost) ≡ test → cond test (heir_of_frame of lost frame) (part_of_frame of frame) ≢ lost
  by_test true is = other_differs lost (heir_place (of - 1) frame)
  by_test false is = eqb-false (part_of_frame of frame) lost is

-- a record of another part stays
stays_behind : (of lost : ℕ) (frame : List ℕ) → part_of_frame of frame ≢ lost → part_behind of lost frame ≡ part_of_frame of frame
stays_behind of lost frame other = ap (λ b. cond b (heir_of_frame of lost frame) (part_of_frame of frame)) (ne_eqb (part_of_frame of frame) lost other)

pub only_lost_moves : (of : ℕ) (loss : Loss) (place : ℕ) (sent : Sent)
    → (place < loss.from → part_of_record of (Some loss) place sent ≡ part_of_record of None place sent)
    × (part_of_record of None place sent ≢ loss.part → part_of_record of (Some loss) place sent ≡ part_of_record of None place sent)
    × (loss.from ≤ place → part_of_record of (Some loss) place sent ≢ loss.part)
only_lost_moves of loss place sent = (
  λ lt. at_before of loss place sent lt,
  λ other. ⊎_elim (λ lt. at_before of loss place sent lt)
      (λ ge. at_behind of loss place sent ge ∙ stays_behind of loss.part sent.bytes.items other) (cases_lt place loss.from),
  λ ge. λ same. behind_differs of loss.part sent.bytes.items (sym (at_behind of loss place sent ge) ∙ same),
)

-- ---- two frames of a flow

pub same_part : (of : ℕ) (frame other : List ℕ) → has_flow_key frame ≡ true → has_flow_key other ≡ true → flow_bytes_of frame ≡ flow_bytes_of other
    → part_of_frame of frame ≡ part_of_frame of other
same_part of frame other has has' same =
    ap (λ b. cond b (part_by salt of (flow_bytes_of frame)) 0) has ∙ ap (part_by salt of) same
    ∙ sym (ap (λ b. cond b (part_by salt of (flow_bytes_of other)) 0) has')

same_place : (others : ℕ) (frame other : List ℕ) → has_flow_key frame ≡ true → has_flow_key other ≡ true → flow_bytes_of frame ≡ flow_bytes_of other
    → heir_place others frame ≡ heir_place others other
same_place others frame other has has' same =
    ap (λ b. cond b (part_by second_salt others (flow_bytes_of frame)) 0) has ∙ ap (part_by second_salt others) same
    ∙ sym (ap (λ b. cond b (part_by second_salt others (flow_bytes_of other)) 0) has')

same_behind : (of lost : ℕ) (frame other : List ℕ) → has_flow_key frame ≡ true → has_flow_key other ≡ true → flow_bytes_of frame ≡ flow_bytes_of other
    → part_behind of lost frame ≡ part_behind of lost other
same_behind of lost frame other has has' same =
    ap (λ (part : ℕ). cond (part == lost) (heir_of_frame of lost frame) part) (same_part of frame other has has' same)
    ∙ ap (λ (place : ℕ). cond (part_of_frame of other == lost) (other_part lost place) (part_of_frame of other)) (same_place (of - 1) frame other has has' same)

pub same_side : (of : ℕ) (loss : Loss) (place then : ℕ) (sent other : Sent) → has_flow_key sent.bytes.items ≡ true → has_flow_key other.bytes.items ≡ true
    → flow_bytes_of sent.bytes.items ≡ flow_bytes_of other.bytes.items → ((place < loss.from) ↔ (then < loss.from))
    → part_of_record of (Some loss) place sent ≡ part_of_record of (Some loss) then other
same_side of loss place then sent other has has' same side = ⊎_elim
    (λ lt. at_before of loss place sent lt ∙ same_part of sent.bytes.items other.bytes.items has has' same ∙ sym (at_before of loss then other (side.0 lt)))
    (λ ge. at_behind of loss place sent ge ∙ same_behind of loss.part sent.bytes.items other.bytes.items has has' same
    ∙ sym (at_behind of loss then other (⊎_elim (λ lt. let back = side.1 lt in absurd (omega (arith, back, ge))) (λ late. late) (cases_lt then loss.from))))
    (cases_lt place loss.from)

-- ---- the others

named_once : (lost place same : ℕ) → other_part lost same ≡ other_part lost place → same ≡ place
named_once lost place same is = ⊎_elim
    (λ lt. let first = other_before lost place lt in ⊎_elim
    (λ lt'. let second = other_before lost same lt' in omega (arith, is, first, second))
    (λ ge'. let second = other_behind lost same ge' in omega (arith, is, first, second, lt, ge')) (cases_lt same lost))
    (λ ge. let first = other_behind lost place ge in ⊎_elim
    (λ lt'. let second = other_before lost same lt' in omega (arith, is, first, second, ge, lt'))
    (λ ge'. let second = other_behind lost same ge' in omega (arith, is, first, second)) (cases_lt same lost))
    (cases_lt place lost)

pub named : (of lost part : ℕ) → lost < of → part < of → part ≢ lost
    → (place : ℕ) × (place < of - 1) × (other_part lost place ≡ part) × ((same : ℕ) → other_part lost same ≡ part → same ≡ place)
named of lost part within below other = ⊎_elim
    (λ lt. let it = other_before lost part lt in (part, omega (arith, lt, within), it, λ same is. named_once lost part same (is ∙ sym it)))
    (λ ge.
    let late : lost < part = before_it ge in
    let it : other_part lost (part - 1) ≡ part = by_one late (other_behind lost (part - 1) (omega (arith, late))) in
    (part - 1, omega (arith, late, below), it, λ same is. named_once lost (part - 1) same (is ∙ sym it)))
    (cases_lt part lost)
  where
    before_it : lost ≤ part → lost < part
    before_it ge = ⊎_elim (λ lt. lt) (λ le. absurd (other (omega (arith, ge, le)))) (cases_lt lost part)

    by_one : lost < part → other_part lost (part - 1) ≡ part - 1 + 1 → other_part lost (part - 1) ≡ part
    by_one late is = omega (arith, late, is)
