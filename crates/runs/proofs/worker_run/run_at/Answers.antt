use Rattle.std.proofs.lemmas.Result.{IfOk-weaker, IfErr-weaker}
use Rattle.shard_port.specs.PassPorts.{port_of}
use Rattle.runs.specs.FrameRuns.{told_port}
use Rattle.runs.proofs.WorkerRunLemmas.{ends_seen, stops_seen, run_keeps}
use Rattle.runs.proofs.worker_run.run_at.Goals as goal

pub returns-clause-exit : goal.returns-clause-exit
returns-clause-exit g c = IfOk-weaker c.run.result _ _
    (λ exit ends. ends_seen c.args.port.now c.run.new.port
    (λ port. told_port (port_of port.shards.now port.pass.now) port.tally.count) _ _
    (λ one two call reply given. (given.given_within.1, given.one_more)) _ _ _ _ _ ends)
    c.run.ensures.exit

pub returns-clause-stop : goal.returns-clause-stop
returns-clause-stop g c = IfErr-weaker c.run.result _ _
    (λ stop stops. stops_seen c.args.port.now c.run.new.port
    (λ port. told_port (port_of port.shards.now port.pass.now) port.tally.count) _ _ _ _
    (λ one two call reply given. (given.given_within.1, given.one_more))
    (λ one two call refused. (refused.refused_within.1, refused.same_count)) _ _ _ stop stops)
    c.run.ensures.stop

pub returns-clause-same_pass : goal.returns-clause-same_pass
returns-clause-same_pass g c =
    run_keeps c.args.port.now c.run.new.port (λ port. port.pass.ghost_name) _ _ (λ one two call reply given. given.given_within.0)
    (λ one two call refused. refused.refused_within.0) _ _ _ c.run.result c.run.ensures.exit c.run.ensures.stop
