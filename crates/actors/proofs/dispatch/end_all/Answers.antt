use Rattle.std.proofs.Common.{◌+◌, List, sym, subst, arith}
use Rattle.rx_queues.specs.declared.job.Job.{Job}
use Rattle.rx_queues.specs.Passes.{jobs_put}
use Rattle.actors.proofs.shared.PutLemmas.{AreEndedUpTo, one_ended, enough_queues}
use Rattle.actors.proofs.dispatch.end_all.Goals as goal

pub workers-preserved : goal.workers-preserved
workers-preserved g c =
    let i = c.workers.invariant in
    let enough = enough_queues c.args.queues.now c.args.put.now c.requires.pass in
    let test = c.workers-test.true in
    let end = c.workers.auto.worker-end in
    let all = c.requires.workers.0 in (
      c.put_waiting.ensures.pass,
      subst (λ (p : List (List Job)). AreEndedUpTo (c.workers.worker + 1) (jobs_put c.args.put.now) p) (sym c.put_waiting.ensures.put)
          (one_ended c.workers.worker (jobs_put c.args.put.now) (jobs_put c.workers.put) (omega (arith, enough, test, end, all)) i.1),
    )
