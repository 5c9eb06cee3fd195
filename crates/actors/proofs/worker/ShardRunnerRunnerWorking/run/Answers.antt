use Rattle.std.proofs.Common.{rules}
use Rattle.semantics.specs.MachineState.{initial_state}
use Rattle.machine.specs.Running.{program_of}
use Rattle.shard_port.specs.PassPorts.{worker_number}
use Rattle.runs.specs.FrameRuns.{HasStopped}
use Rattle.runs.proofs.shared.Untold.{stopped_only}
use Rattle.actors.proofs.worker.ShardRunnerRunnerWorking.run.Goals as goal

pub returns-in-Err-clause-run : goal.returns-in-Err-clause-run
returns-in-Err-clause-run g c =
    let was : HasStopped (program_of c.args.self.now.verified.now c.args.self.now.shards.now.options.shards)
    (initial_state c.refill.new.self c.moment_of-moment.result.worker c.moment_of-moment.result.now_ns) g.B.Naming.plan g.B.Naming.count
    (worker_number c.args.state.now.pass.who) c.args.state.now.pass c.run_frame.new.pass c.run_frame.new.frame c.in-Err.field-0 =
    stopped_only (program_of c.args.self.now.verified.now c.args.self.now.shards.now.options.shards)
    (initial_state c.refill.new.self c.moment_of-moment.result.worker c.moment_of-moment.result.now_ns) g.B.Naming.plan g.B.Naming.count
    (worker_number c.args.state.now.pass.who) c.args.state.now.pass c.run_frame.new.pass c.run_frame.new.frame c.args.state.now.replies
    c.run_frame.new.replies c.in-Err.field-0 c.in-Err.ensures.stop in
    search rules
