use Rattle.shard_port.specs.PlainPorts.{IsSamePort}
use Rattle.replay_tests.proofs.steering.sessions.put_world.Given as goal

-- the port is the one that it was
abbrev pub invariant-places : goal.invariant-places
invariant-places l = IsSamePort l.fn.port l.port
