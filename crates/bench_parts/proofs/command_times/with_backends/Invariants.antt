use Rattle.std.proofs.Common.{◌≡◌}
use Rattle.conntrack.specs.SteeringMaps.{AreSteeringMaps}
use Rattle.bench_parts.proofs.command_times.with_backends.Given as goal

abbrev pub invariant-backends : goal.invariant-backends
invariant-backends l = (l.controller.size ≡ 65537) × AreSteeringMaps l.controller.size l.sink.maps.items
