use Rattle.std.proofs.Common.{subst}
use Rattle.rx_queues.specs.Fifo.{IsTakenInOrder}
use Rattle.rx_queues.specs.Passes.{jobs_put, jobs_taken}
use Rattle.actors.specs.Puts.{put_at}
use Rattle.actors.proofs.shared.HandLemmas.{taken_all}
use Rattle.actors.proofs.actor.settled_actor.Goals as goal

pub returns-clause-given : goal.returns-clause-given
returns-clause-given g c =
    let kept = c.join-take.ensures in
    let given = kept.3 c.if-is_refused.false in
    let taken = jobs_taken c.join-take.result.take in
    let puts = jobs_put c.args.put.now in
    let place = c.args.thread.promise.place in
    subst (λ jobs. g.C.Actor.gives c.args.thread.promise.actor.value jobs c.join-take.result.given)
    (taken_all taken (put_at puts place) kept.2 c.requires.ends (subst (λ n. IsTakenInOrder taken (put_at puts n)) kept.1 c.settle.ensures.in_order)) given
