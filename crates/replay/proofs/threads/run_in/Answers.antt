use Rattle.std.proofs.Common.{rules, inl, inr, refl, ◌≡◌, ◌+◌, ◌-◌, ◌/◌, ◌<◌, ◌∷◌, ◌++◌, [], List, length, sym, ap, ◌∙◌, subst, arith}
use Rattle.rx_queues.specs.declared.job.Job.{Job}
use Rattle.rx_queues.specs.declared.job.Job.TheVariants.{End}
use Rattle.rx_queues.specs.Passes.{workers_of, jobs_put}
use Rattle.actors.specs.Actors.{HasNoEnd, AreAllEnded, AreBothEnded, round_jobs, commands_from}
use Rattle.actors.specs.Puts.{ArePutWithEnd, put_at}
use Rattle.actors.proofs.shared.HandLemmas.{commands_no_end, notes_no_end}
use Rattle.replay.proofs.AbandonLemmas.{given_up_then}
use Rattle.replay.proofs.EndLemmas.{ended_then, all_ended, nobody_ran}
use Rattle.actors.proofs.shared.PutLemmas.{all_queues}
use Rattle.replay.proofs.threads.run_in.Goals as goal

-- nothing was put yet
pub returns-in_default-clause-abandoned : goal.returns-in_default-clause-abandoned
returns-in_default-clause-abandoned g c = inl (record { no_memory = refl; nothing = c.requires.ready.passes.nothing_put })

-- no actor's thread was started, and so none at all
pub returns-in_default-start_both-clause-abandoned : goal.returns-in_default-start_both-clause-abandoned
returns-in_default-start_both-clause-abandoned g c =
    let workers = length c.args.states.items in
    let here : workers_of c.args.setting.queues.now ≡ workers = c.requires.ready.passes.workers_are in
    let all : c.len-workers.result ≡ workers = (let many = c.len-workers.ensures in let ok = c.args.states.ok.0 in omega (arith, many, ok)) in
    let size = all_queues c.args.setting.queues.now c.args.put c.requires.ready.passes.may_put in
    let both : AreBothEnded (workers_of c.args.setting.queues.now) (jobs_put c.args.put) (jobs_put c.start_both.new.put) = search rules in
    let none = nobody_ran workers (jobs_put c.args.put) (jobs_put c.start_both.new.put) (jobs_put c.end_all.new.put) c.requires.ready.passes.nothing_put
    (omega (arith, size, here)) (subst (λ n. AreBothEnded n (jobs_put c.args.put) (jobs_put c.start_both.new.put)) here both)
    (subst (λ n. ArePutWithEnd n (jobs_put c.start_both.new.put) (jobs_put c.end_all.new.put)) all c.end_all.ensures.put) in
    inr (inl (record { no_thread = refl; no_record = none.0; ended = none.1 }))

pub work_all-requires-clause-ready : goal.work_all-requires-clause-ready
work_all-requires-clause-ready g c κs outlives =
    let count = c.last_two-last.ensures.workers.0 in
    let many = c.len-workers.ensures in
    let ok = c.args.states.ok.0 in
    let here = c.requires.ready.passes.workers_are in
    record {
      workers_are = c.requires.ready.passes.workers_are;
      some = c.requires.ready.passes.some;
      few = c.requires.ready.passes.few;
      for_all = c.requires.ready.for_all;
      within = c.requires.ready.within;
      may_put = c.start_both.ensures.put;
      nothing_put = search rules;
      enough = omega (arith, count, many, ok);
      may_take = c.last_two-last.ensures.workers.1;
      states_are = c.requires.ready.states_are;
    }

pub close_both-requires-clause-controller : goal.close_both-requires-clause-controller
close_both-requires-clause-controller g c =
    let here : c.len-workers.result ≡ workers_of c.args.setting.queues.now =
    (let is = c.len-workers.ensures in let ok = c.args.states.ok.0 in let w = c.requires.ready.passes.workers_are in omega (arith, is, ok, w)) in
    let first = c.requires.ready.within in
    let count = length c.args.setting.starts.now - c.args.setting.first in
    let all : c.args.setting.first + count ≡ length c.args.setting.starts.now = omega (arith, first) in (
      c.in-Some.ensures.controller.0,
      c.in-Some.ensures.controller.1 ∙ here,
      subst HasNoEnd (sym (c.in-Ok-work_all.ensures.done.commands count all)) (commands_no_end c.args.setting.first count),
    )

pub close_both-requires-clause-reclaimer : goal.close_both-requires-clause-reclaimer
close_both-requires-clause-reclaimer g c =
    let here : c.len-workers.result ≡ workers_of c.args.setting.queues.now =
    (let is = c.len-workers.ensures in let ok = c.args.states.ok.0 in let w = c.requires.ready.passes.workers_are in omega (arith, is, ok, w)) in (
      c.in-Some.ensures.reclaimer.0,
      c.in-Some.ensures.reclaimer.1 ∙ ap (λ n. n + 1) here,
      subst HasNoEnd (sym c.in-Ok-work_all.ensures.done.notes) (notes_no_end (length c.args.setting.capture.now.records.items / 64)),
    )

pub returns-in-Some-close_both-clause-done : goal.returns-in-Some-close_both-clause-done
returns-in-Some-close_both-clause-done g c =
    let both = c.in-Some-close_both in
    let jobs = put_at (jobs_put c.work_all.new.put) (workers_of c.args.setting.queues.now) in
    let notes = put_at (jobs_put c.work_all.new.put) (workers_of c.args.setting.queues.now + 1) in
    let rounds = round_jobs (length c.args.setting.capture.now.records.items) in
    let all : notes ++ End ∷ [] ≡ rounds = ap (λ (xs : List Job). xs ++ End ∷ []) c.in-Ok-work_all.ensures.done.notes in
    record {
      count = c.in-Ok-work_all.ensures.done.count;
      handled = c.in-Ok-work_all.ensures.done.handled;
      commands = λ count is.
          let asked = commands_from c.args.setting.first count ++ End ∷ [] in
          subst (λ actor. g.C.Actor.gives actor asked both.controller) c.in-Some.ensures.controller.2
          (subst (λ (xs : List Job). g.C.Actor.gives c.in-Some.commanding.promise.actor.value (xs ++ End ∷ []) both.controller)
          (c.in-Ok-work_all.ensures.done.commands count is) both.ensures.controller);
      rounds = subst (λ actor. g.D.Actor.gives actor rounds both.reclaimer) c.in-Some.ensures.reclaimer.2
          (subst (λ (xs : List Job). g.D.Actor.gives c.in-Some.reclaiming.promise.actor.value xs both.reclaimer) all both.ensures.reclaimer);
    }

pub returns-in-None-clause-abandoned : goal.returns-in-None-clause-abandoned
returns-in-None-clause-abandoned g c =
    let here : workers_of c.args.setting.queues.now ≡ length c.args.states.items = c.requires.ready.passes.workers_are in
    let before = jobs_put c.work_all.new.put in
    inr (inr (record {
      no_memory = refl;
      records = λ worker below.
          c.close_both.ensures.others worker (omega (arith, below, here)) ∙ c.in-Ok-work_all.ensures.done.records worker below;
      ended = subst (λ n. AreAllEnded (n + 2) (jobs_put c.close_both.new.put)) here
          (all_ended (workers_of c.args.setting.queues.now) before (jobs_put c.close_both.new.put)
          (subst (λ n. AreAllEnded n before) (sym here) c.work_all.ensures.ended) c.close_both.ensures.others c.close_both.ensures.ended);
    }))

pub returns-in-Err-clause-abandoned : goal.returns-in-Err-clause-abandoned
returns-in-Err-clause-abandoned g c =
    let here : workers_of c.args.setting.queues.now ≡ length c.args.states.items = c.requires.ready.passes.workers_are in
    let workers = workers_of c.args.setting.queues.now in
    let before = jobs_put c.work_all.new.put in
    let within : workers + 1 < length before = (let size = all_queues c.args.setting.queues.now c.work_all.new.put c.work_all.ensures.put in omega (arith, size)) in
    given_up_then c.args.setting (length c.args.states.items) before (jobs_put c.end_both.new.put) c.in-Err.fault c.in-Err.ensures.given_up
    (λ worker below. c.end_both.ensures.put.others worker (omega (arith, below, here)))
    (subst (λ n. AreAllEnded (n + 2) (jobs_put c.end_both.new.put)) here
    (ended_then workers before (jobs_put c.end_both.new.put) within (subst (λ n. AreAllEnded n before) (sym here) c.work_all.ensures.ended)
    c.work_all.ensures.others c.end_both.ensures.put))
