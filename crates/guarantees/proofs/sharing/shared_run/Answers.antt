use Rattle.std.proofs.lemmas.Result.{IfOk-weaker, IfErr-weaker}
use Rattle.shard_port.specs.PassPorts.{worker_number}
use Rattle.runs.proofs.shared.Untold.{stopped_only}
use Rattle.guarantees.proofs.SharedRuns.{is_among, ran_in_system, stopped_in_system}
use Rattle.guarantees.proofs.sharing.shared_run.Goals as goal

pub returns-clause-exit : goal.returns-clause-exit
returns-clause-exit g c = IfOk-weaker c.run_frame.result _ _
    (λ exit run. ran_in_system c.runs_are_of_the_system.ensures c.args.verified.now c.args.shards.now.options c.args.moment.now
    c.args.frame.now g.B.Naming.count (worker_number c.args.pass.now.who) c.args.pass.now c.run_frame.new.pass exit.verdict exit.steps
    c.run_frame.new.frame (is_among c.args.shards.now.options.workers c.args.pass.now.who c.requires.worker) c.frame_may_come_in.ensures
    c.requires.headroom c.time_has_64_bits.ensures c.requires.moment run.0)
    c.run_frame.ensures.exit

pub returns-clause-stop : goal.returns-clause-stop
returns-clause-stop g c = IfErr-weaker c.run_frame.result _ _
    (λ stop told. let was = stopped_only _ _ _ _ _ _ _ _ _ _ stop told in stopped_in_system c.stopped_runs_are_of_the_system.ensures c.args.verified.now c.args.shards.now.options c.args.moment.now
    c.args.frame.now g.B.Naming.plan g.B.Naming.count (worker_number c.args.pass.now.who) c.args.pass.now c.run_frame.new.pass
    c.run_frame.new.frame stop (is_among c.args.shards.now.options.workers c.args.pass.now.who c.requires.worker) c.frame_may_come_in.ensures
    c.requires.headroom c.time_has_64_bits.ensures c.requires.moment was)
    c.run_frame.ensures.stop
