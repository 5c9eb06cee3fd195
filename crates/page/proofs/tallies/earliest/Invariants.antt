use Rattle.std.proofs.Common.{◌≡◌, take}
use Rattle.std.specs.Prelude.{fold, min, slice_index}
use Rattle.page.proofs.tallies.earliest.Given as goal

abbrev pub invariant-moments : goal.invariant-moments
invariant-moments l = l.least ≡ fold min (slice_index l.moments 0) (take l.moment-index l.moments)
