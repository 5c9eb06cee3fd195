use Rattle.std.proofs.Common.{◌≡◌, ◌∙◌, ◌+◌, ℕ, suc, take, slice_index_or, ap, sym, arith}
use Rattle.faults.specs.Refusals.{next_place, place_after}
use Rattle.faults.specs.declared.refusal.Place.{Place}
use Rattle.faults.specs.declared.refusal.Place.TheVariants.{LineStart}
use Rattle.faults.proofs.PlaceLemmas.{one_further}
use Rattle.faults.proofs.refusal.are_indented.Goals as goal

pub notes-preserved : goal.notes-preserved
notes-preserved c =
    let next : c.notes.byte-index + 1 ≡ suc c.notes.byte-index = omega arith in
    c.next-place.ensures
    ∙ (ap (λ (place : Place). next_place place (slice_index_or c.args.notes.now c.notes.byte-index 0)) c.notes.invariant
    ∙ sym (ap (λ (count : ℕ). place_after LineStart (take count c.args.notes.now)) next ∙ one_further LineStart c.args.notes.now c.notes.byte-index c.notes-test.true))
