use Rattle.std.proofs.Common.{◌≤◌}
use Rattle.reasons.specs.Origins.{IsUnsetAt, StaysUnset}
use Rattle.reasons.proofs.origin.origin_of.Given as goal

abbrev pub invariant-back : goal.invariant-back
invariant-back l = record {
  stays : StaysUnset l.image.version l.image.maps l.image.code l.register l.at l.slot;
  unset : IsUnsetAt l.image.version l.image.maps l.image.code l.register l.at;
  before : l.at ≤ l.slot;
}

abbrev pub decreases-back : goal.decreases-back
decreases-back l = l.at
