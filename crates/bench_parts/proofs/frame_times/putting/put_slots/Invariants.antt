use Rattle.shard_port.specs.PlainPorts.{IsSamePort}
use Rattle.bench_parts.proofs.frame_times.putting.put_slots.Given as goal

abbrev pub invariant-slots : goal.invariant-slots
invariant-slots l = IsSamePort l.fn.port l.port
