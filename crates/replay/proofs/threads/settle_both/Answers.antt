use Rattle.std.proofs.Common.{◌+◌, ◌<◌, length, sym, ap, ◌∙◌, subst, arith}
use Rattle.std.specs.Prelude.{IfSome}
use Rattle.rx_queues.specs.Passes.{jobs_put, workers_of}
use Rattle.actors.specs.Actors.{EndsOnce}
use Rattle.actors.specs.Puts.{put_at}
use Rattle.replay.proofs.EndLemmas.{both_end_once}
use Rattle.actors.proofs.shared.PutLemmas.{all_queues}
use Rattle.replay.proofs.threads.settle_both.Goals as goal

pub settled_actor-of_controller-requires-clause-ends : goal.settled_actor-of_controller-requires-clause-ends
settled_actor-of_controller-requires-clause-ends g c =
    let workers = workers_of c.args.queues.now in
    let puts = jobs_put c.args.put.now in
    let within : workers + 1 < length puts = (let size = all_queues c.args.queues.now c.args.put.now c.requires.put in omega (arith, size)) in
    record {
      before = put_at puts workers;
      no_end = c.requires.controller.2;
      jobs_are = ap (λ n. put_at (jobs_put c.end_both.new.put) n) c.requires.controller.1 ∙ c.end_both.ensures.put.controller (omega (arith, within));
    }

pub settled_actor-of_reclaimer-requires-clause-ends : goal.settled_actor-of_reclaimer-requires-clause-ends
settled_actor-of_reclaimer-requires-clause-ends g c =
    let workers = workers_of c.args.queues.now in
    let puts = jobs_put c.args.put.now in
    let within : workers + 1 < length puts = (let size = all_queues c.args.queues.now c.args.put.now c.requires.put in omega (arith, size)) in
    record {
      before = put_at puts (workers + 1);
      no_end = c.requires.reclaimer.2;
      jobs_are = ap (λ p. put_at p c.args.reclaiming.promise.place) c.settled_actor-of_controller.ensures.put.1
          ∙ ap (λ n. put_at (jobs_put c.end_both.new.put) n) c.requires.reclaimer.1 ∙ c.end_both.ensures.put.reclaimer within;
    }

pub returns-clause-controller : goal.returns-clause-controller
returns-clause-controller g c =
    let workers = workers_of c.args.queues.now in
    let puts = jobs_put c.args.put.now in
    let within : workers + 1 < length puts = (let size = all_queues c.args.queues.now c.args.put.now c.requires.put in omega (arith, size)) in
    subst (λ jobs. IfSome c.settled_actor-of_controller.result (g.C.Actor.gives c.args.commanding.promise.actor.value jobs))
    (ap (λ n. put_at (jobs_put c.end_both.new.put) n) c.requires.controller.1 ∙ c.end_both.ensures.put.controller (omega (arith, within)))
    c.settled_actor-of_controller.ensures.given

pub returns-clause-reclaimer : goal.returns-clause-reclaimer
returns-clause-reclaimer g c =
    let workers = workers_of c.args.queues.now in
    let puts = jobs_put c.args.put.now in
    let within : workers + 1 < length puts = (let size = all_queues c.args.queues.now c.args.put.now c.requires.put in omega (arith, size)) in
    subst (λ jobs. IfSome c.settled_actor-of_reclaimer.result (g.D.Actor.gives c.args.reclaiming.promise.actor.value jobs))
    (ap (λ p. put_at p c.args.reclaiming.promise.place) c.settled_actor-of_controller.ensures.put.1
    ∙ ap (λ n. put_at (jobs_put c.end_both.new.put) n) c.requires.reclaimer.1 ∙ c.end_both.ensures.put.reclaimer within)
    c.settled_actor-of_reclaimer.ensures.given

pub returns-clause-ended : goal.returns-clause-ended
returns-clause-ended g c =
    let workers = workers_of c.args.queues.now in
    let puts = jobs_put c.args.put.now in
    let within : workers + 1 < length puts = (let size = all_queues c.args.queues.now c.args.put.now c.requires.put in omega (arith, size)) in
    subst (λ p. EndsOnce (put_at p workers) × EndsOnce (put_at p (workers + 1)))
    (sym (c.settled_actor-of_reclaimer.ensures.put.1 ∙ c.settled_actor-of_controller.ensures.put.1))
    (both_end_once workers puts (jobs_put c.end_both.new.put) within c.end_both.ensures.put c.requires.controller.2 c.requires.reclaimer.2)

pub returns-clause-others : goal.returns-clause-others
returns-clause-others g c = λ place below.
    ap (λ p. put_at p place) (c.settled_actor-of_reclaimer.ensures.put.1 ∙ c.settled_actor-of_controller.ensures.put.1)
    ∙ c.end_both.ensures.put.others place below
