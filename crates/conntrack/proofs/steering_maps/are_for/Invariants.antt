use Rattle.std.proofs.Common.{◌≡◌, ◌<◌, ℕ}
use Rattle.std.specs.Prelude.{slice_get}
use Rattle.conntrack.proofs.steering_maps.are_for.Given as goal

abbrev pub invariant-places : goal.invariant-places
invariant-places l = (n : ℕ) → n < l.place → slice_get l.maps n ≡ slice_get l.wanted n
