use Rattle.conntrack.specs.SteeringMaps.{steering_maps, AreSteeringMaps}
use Rattle.traffic.proofs.AppliedLemmas.{IsAppliedUntil}
use Rattle.traffic.proofs.applying.words_after.Given as goal

abbrev pub invariant-lines : goal.invariant-lines
invariant-lines l =
    IsAppliedUntil l.size l.command-index l.commands l.controller l.maps × AreSteeringMaps l.controller.size (steering_maps l.maps.size)
