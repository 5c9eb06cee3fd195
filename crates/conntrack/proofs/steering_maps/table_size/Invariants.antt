use Rattle.std.proofs.Common.{◌≡◌, ◌<◌, ℕ}
use Rattle.std.specs.Prelude.{slice_index}
use Rattle.conntrack.specs.SteeringMaps.{sized_maps}
use Rattle.conntrack.proofs.steering_maps.table_size.Given as goal

abbrev pub invariant-sizes : goal.invariant-sizes
invariant-sizes l = (n : ℕ) → n < l.size-index → ¬ (l.maps ≡ sized_maps l.notes (slice_index l.size-items n))
