use Rattle.shard_port.specs.PortView.{ServesMaps}
use Rattle.bench_parts.specs.FrameOptions.{bench_options}
use Rattle.bench_parts.proofs.frame_times.run_all.Given as goal

abbrev pub invariant-frames : goal.invariant-frames
invariant-frames l = ServesMaps l.fn.verified.maps bench_options l.shards
