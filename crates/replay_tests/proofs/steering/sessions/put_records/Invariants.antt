use Rattle.shard_port.specs.PlainPorts.{IsSamePort}
use Rattle.replay_tests.proofs.steering.sessions.put_records.Given as goal

-- the port is the one that it was
abbrev pub invariant-records : goal.invariant-records
invariant-records l = IsSamePort l.fn.port l.port
