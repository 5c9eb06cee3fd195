use Rattle.std.proofs.Common.{◌≡◌}
use Rattle.shard_tests.specs.ExampleMaps.{example_maps}
use Rattle.shard_tests.proofs.port_rows.answers.Given as goal

abbrev pub invariant-loop-name : goal.invariant-loop-name
invariant-loop-name g l = (g.P.MapPort.serves l.port).maps ≡ example_maps
