use Rattle.std.proofs.Common.{◌≡◌}
use Rattle.verifier.specs.Surveys.{slot_of_index}
use Rattle.reasons.proofs.MeetingLemmas.{NoneBefore}
use Rattle.reasons.proofs.origin.find_arrival.Given as goal

abbrev pub invariant-loop-index : goal.invariant-loop-index
invariant-loop-index l = record {
  at : l.slot ≡ slot_of_index l.image.code l.index;
  none : NoneBefore l.image.version l.image.maps l.image.code l.target l.register l.unlike l.slot;
}
