use Rattle.verifier.specs.Verified.{Verified}
use Rattle.shard_port.specs.PortView.{ServesMaps}
use Rattle.replay_tests.specs.SessionOptions.{session_options}
use Rattle.replay_tests.proofs.steering.beside.steered.Given as goal

-- the shards are those of the program's maps
abbrev pub invariant-cases : goal.invariant-cases
invariant-cases g l = ServesMaps l.fn.verified.maps session_options l.shards
