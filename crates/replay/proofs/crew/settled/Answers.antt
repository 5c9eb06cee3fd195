use Rattle.std.proofs.Common.{[], ap, ◌∙◌}
use Rattle.std.specs.Prelude.{slice_index_or}
use Rattle.rx_queues.specs.Passes.{jobs_put}
use Rattle.replay.proofs.CrewRuns.{held_against, worked_there}
use Rattle.replay.proofs.crew.settled.Goals as goal

pub returns-clause-handled : goal.returns-clause-handled
returns-clause-handled g c =
    let is = c.requires.lane in
    let worked = worked_there g.W.Runner.is_new g.W.Runner.runs c.args.queues.now c.args.capture.now c.args.runner.now c.args.worker c.args.lane is
    _ _ _ (c.join-take.ensures.worked c.if-is_refused.false) in
    held_against _ _ _ _ _ _ _ worked c.settle.ensures.in_order
    (ap (λ n. slice_index_or (jobs_put c.args.put.now) n []) (c.join-take.ensures.take.1 ∙ is.worker_is) ∙ c.requires.jobs)
