use Rattle.shard_port.specs.PlainPorts.{IsSamePort}
use Rattle.bench_parts.proofs.frame_times.putting.put_flows.Given as goal

abbrev pub invariant-frames : goal.invariant-frames
invariant-frames l = IsSamePort l.fn.port l.port
