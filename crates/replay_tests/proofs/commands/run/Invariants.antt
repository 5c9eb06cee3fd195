use Rattle.conntrack.specs.SteeringMaps.{AreSteeringMaps}
use Rattle.replay_tests.proofs.commands.run.Given as goal

abbrev pub invariant-commands : goal.invariant-commands
invariant-commands g l = AreSteeringMaps l.controller.size l.list.maps
