use Rattle.std.proofs.Common.{rules}
use Rattle.std.proofs.lemmas.Result.{IfOk-weaker, IfErr-weaker}
use Rattle.guarantees.specs.Runs.{run_start, IsPortOver}
use Rattle.guarantees.proofs.RunLemmas.{ran_so, stopped_so}
use Rattle.guarantees.proofs.running.worker_run.Goals as goal

pub returns-clause-exit : goal.returns-clause-exit
returns-clause-exit c =
    let verified = c.args.verified.now in
    let over : IsPortOver verified.maps c.args.options c.args.moment.now.worker c.args.shards.now c.over-port.result =
    record {
      same_maps = search rules;
      same_shards = c.over-port.ensures.shards;
      same_options = c.over-port.ensures.options;
      same_worker =
          c.over-port.ensures.worker;
    } in
    IfOk-weaker c.run_at-ended.result _ _
    (λ exit ends. ran_so c.runs_are_their_meaning.ensures verified c.args.options (run_start c.args.moment.now c.args.frame.now)
    c.args.shards.now _ c.over-port.result c.run_at-ended.new.port exit.verdict exit.steps c.run_at-ended.new.frame
    c.requires.outside over ends (record { left = search rules; serve = search rules }))
    c.run_at-ended.ensures.exit

pub returns-clause-stop : goal.returns-clause-stop
returns-clause-stop c =
    let verified = c.args.verified.now in
    let over : IsPortOver verified.maps c.args.options c.args.moment.now.worker c.args.shards.now c.over-port.result =
    record {
      same_maps = search rules;
      same_shards = c.over-port.ensures.shards;
      same_options = c.over-port.ensures.options;
      same_worker =
          c.over-port.ensures.worker;
    } in
    IfErr-weaker c.run_at-ended.result _ _
    (λ stop stops. stopped_so c.stopped_runs_are_beginnings.ensures verified c.args.options (run_start c.args.moment.now c.args.frame.now)
    c.args.shards.now _ c.over-port.result c.run_at-ended.new.port stop c.run_at-ended.new.frame
    c.requires.outside over stops (record { left = search rules; serve = search rules }))
    c.run_at-ended.ensures.stop
