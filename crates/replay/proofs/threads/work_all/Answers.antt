use Rattle.std.proofs.Common.{inl, inr, refl, ◌≡◌, ◌+◌, [], length, replicate, sym, ap, ◌∙◌, subst, arith}
use Rattle.rx_queues.specs.Passes.{jobs_put, workers_of}
use Rattle.semantics.specs.Each.{Each}
use Rattle.replay.specs.Crews.{IsHandled}
use Rattle.actors.specs.Shares.{frames_of}
use Rattle.actors.specs.Actors.{HasNoEnd, AreAllEnded}
use Rattle.actors.specs.Puts.{put_at, AreAllPut, AreNonePut}
use Rattle.actors.proofs.shared.DispatchLemmas.{none_dispatched, all_commands}
use Rattle.replay.proofs.EndLemmas.{workers_ended, workers_done, actors_go_on, none_ran_at_all, none_ended_once, actors_idle}
use Rattle.actors.proofs.shared.PutLemmas.{all_put}
use Rattle.replay.proofs.threads.work_all.Goals as goal

pub hand_all-requires-clause-nothing : goal.hand_all-requires-clause-nothing
hand_all-requires-clause-nothing g c =
    let count : length c.args.states.items ≡ c.len-workers.result = (let is = c.len-workers.ensures in let ok = c.args.states.ok.0 in omega (arith, is, ok)) in
    none_dispatched (frames_of c.args.setting.capture.now.records.items) c.args.setting.starts.now c.len-workers.result c.args.setting.first (jobs_put c.args.put.now)
    (c.requires.ready.nothing_put ∙ ap (λ n. replicate (n + 2) []) count)

pub finish_all-requires-clause-jobs : goal.finish_all-requires-clause-jobs
finish_all-requires-clause-jobs g c =
    let frames = frames_of c.args.setting.capture.now.records.items in
    let records = length c.args.setting.capture.now.records.items in
    let count : c.len-workers.result ≡ length c.in-Ok.lanes.items =
    (let is = c.len-workers.ensures in let ok = c.args.states.ok.0 in let lanes = c.in-Ok.ensures.count in omega (arith, is, ok, lanes)) in
    subst (λ n. AreAllPut frames n records (jobs_put c.end_all.new.put)) count
    (all_put frames c.len-workers.result records (jobs_put c.hand_all.new.put) (jobs_put c.end_all.new.put) (c.hand_all.ensures.put.are_put) c.end_all.ensures.put)

pub returns-in-Some-clause-done : goal.returns-in-Some-clause-done
returns-in-Some-clause-done g c =
    let frames = frames_of c.args.setting.capture.now.records.items in
    let records = length c.args.setting.capture.now.records.items in
    let all : c.len-workers.result ≡ length c.args.states.items = (let is = c.len-workers.ensures in let ok = c.args.states.ok.0 in omega (arith, is, ok)) in
    let here : workers_of c.args.setting.queues.now ≡ c.len-workers.result =
    (let a = c.len-workers.ensures in let ok = c.args.states.ok.0 in let w = c.requires.ready.workers_are in omega (arith, a, ok, w)) in
    record {
      count = c.in-Some.ensures.count ∙ c.in-Ok.ensures.count;
      handled = subst (λ n. Each (IsHandled (g.W.Runner.is_new c.args.setting.runner.now) (g.W.Runner.runs c.args.setting.runner.now)
          c.args.setting.capture.now.records.items n) 0 c.in-Some.all.items)
          c.in-Ok.ensures.count c.in-Some.ensures.handled;
      commands = λ count is.
          ap (λ p. put_at p (workers_of c.args.setting.queues.now)) c.finish_all.ensures.put.1
          ∙ c.end_all.ensures.put.others (workers_of c.args.setting.queues.now) (omega (arith, here))
          ∙ ap (λ n. put_at (jobs_put c.hand_all.new.put) n) here
          ∙ all_commands frames c.args.setting.starts.now c.len-workers.result records c.args.setting.first (length c.args.setting.starts.now)
          (jobs_put c.hand_all.new.put) c.hand_all.ensures.put count is;
      notes = ap (λ p. put_at p (workers_of c.args.setting.queues.now + 1)) c.finish_all.ensures.put.1
          ∙ c.end_all.ensures.put.others (workers_of c.args.setting.queues.now + 1) (omega (arith, here))
          ∙ ap (λ n. put_at (jobs_put c.hand_all.new.put) (n + 1)) here
          ∙ c.hand_all.ensures.put.notes;
      records = subst (λ n. AreAllPut frames n records (jobs_put c.finish_all.new.put)) all
          (workers_done frames c.len-workers.result records (jobs_put c.hand_all.new.put) (jobs_put c.end_all.new.put) (jobs_put c.finish_all.new.put)
          c.hand_all.ensures.put.are_put c.end_all.ensures.put c.finish_all.ensures.put.1);
    }

pub returns-in-Some-clause-ended : goal.returns-in-Some-clause-ended
returns-in-Some-clause-ended g c =
    let frames = frames_of c.args.setting.capture.now.records.items in
    let records = length c.args.setting.capture.now.records.items in
    let all : c.len-workers.result ≡ length c.args.states.items = (let is = c.len-workers.ensures in let ok = c.args.states.ok.0 in omega (arith, is, ok)) in
    subst (λ n. AreAllEnded n (jobs_put c.finish_all.new.put)) all
    (workers_ended frames c.len-workers.result records (jobs_put c.finish_all.new.put)
    (workers_done frames c.len-workers.result records (jobs_put c.hand_all.new.put) (jobs_put c.end_all.new.put) (jobs_put c.finish_all.new.put)
    c.hand_all.ensures.put.are_put c.end_all.ensures.put c.finish_all.ensures.put.1))

pub returns-in-None-clause-ended : goal.returns-in-None-clause-ended
returns-in-None-clause-ended g c =
    let frames = frames_of c.args.setting.capture.now.records.items in
    let records = length c.args.setting.capture.now.records.items in
    let all : c.len-workers.result ≡ length c.args.states.items = (let is = c.len-workers.ensures in let ok = c.args.states.ok.0 in omega (arith, is, ok)) in
    subst (λ n. AreAllEnded n (jobs_put c.finish_all.new.put)) all
    (workers_ended frames c.len-workers.result records (jobs_put c.finish_all.new.put)
    (workers_done frames c.len-workers.result records (jobs_put c.hand_all.new.put) (jobs_put c.end_all.new.put) (jobs_put c.finish_all.new.put)
    c.hand_all.ensures.put.are_put c.end_all.ensures.put c.finish_all.ensures.put.1))

pub returns-in-None-clause-given_up : goal.returns-in-None-clause-given_up
returns-in-None-clause-given_up g c =
    let frames = frames_of c.args.setting.capture.now.records.items in
    let records = length c.args.setting.capture.now.records.items in
    let all : c.len-workers.result ≡ length c.args.states.items = (let is = c.len-workers.ensures in let ok = c.args.states.ok.0 in omega (arith, is, ok)) in
    inr (
      refl,
      subst (λ n. AreAllPut frames n records (jobs_put c.finish_all.new.put)) all
          (workers_done frames c.len-workers.result records (jobs_put c.hand_all.new.put) (jobs_put c.end_all.new.put) (jobs_put c.finish_all.new.put)
          c.hand_all.ensures.put.are_put c.end_all.ensures.put c.finish_all.ensures.put.1),
    )

pub returns-in-Some-clause-others : goal.returns-in-Some-clause-others
returns-in-Some-clause-others g c =
    let here : c.len-workers.result ≡ workers_of c.args.setting.queues.now =
    (let a = c.len-workers.ensures in let ok = c.args.states.ok.0 in let w = c.requires.ready.workers_are in omega (arith, a, ok, w)) in
    subst (λ n. HasNoEnd (put_at (jobs_put c.finish_all.new.put) n) × HasNoEnd (put_at (jobs_put c.finish_all.new.put) (n + 1))) here
    (actors_go_on (frames_of c.args.setting.capture.now.records.items) c.args.setting.starts.now c.len-workers.result (length c.args.setting.capture.now.records.items)
    c.args.setting.first (length c.args.setting.starts.now) (jobs_put c.hand_all.new.put) (jobs_put c.end_all.new.put) (jobs_put c.finish_all.new.put)
    c.hand_all.ensures.put c.end_all.ensures.put c.finish_all.ensures.put.1)

pub returns-in-None-clause-others : goal.returns-in-None-clause-others
returns-in-None-clause-others g c =
    let here : c.len-workers.result ≡ workers_of c.args.setting.queues.now =
    (let a = c.len-workers.ensures in let ok = c.args.states.ok.0 in let w = c.requires.ready.workers_are in omega (arith, a, ok, w)) in
    subst (λ n. HasNoEnd (put_at (jobs_put c.finish_all.new.put) n) × HasNoEnd (put_at (jobs_put c.finish_all.new.put) (n + 1))) here
    (actors_go_on (frames_of c.args.setting.capture.now.records.items) c.args.setting.starts.now c.len-workers.result (length c.args.setting.capture.now.records.items)
    c.args.setting.first (length c.args.setting.starts.now) (jobs_put c.hand_all.new.put) (jobs_put c.end_all.new.put) (jobs_put c.finish_all.new.put)
    c.hand_all.ensures.put c.end_all.ensures.put c.finish_all.ensures.put.1)

pub returns-in-Err-clause-given_up : goal.returns-in-Err-clause-given_up
returns-in-Err-clause-given_up g c =
    let all : c.len-workers.result ≡ length c.args.states.items = (let is = c.len-workers.ensures in let ok = c.args.states.ok.0 in omega (arith, is, ok)) in
    inl (
      refl,
      subst (λ n. AreNonePut n (jobs_put c.abandon.new.put)) all
          (none_ran_at_all c.len-workers.result (jobs_put c.args.put.now) (jobs_put c.abandon.new.put)
          (c.requires.ready.nothing_put ∙ ap (λ n. replicate (n + 2) []) (sym all)) c.abandon.ensures.ended),
    )

pub returns-in-Err-clause-ended : goal.returns-in-Err-clause-ended
returns-in-Err-clause-ended g c =
    let all : c.len-workers.result ≡ length c.args.states.items = (let is = c.len-workers.ensures in let ok = c.args.states.ok.0 in omega (arith, is, ok)) in
    subst (λ n. AreAllEnded n (jobs_put c.abandon.new.put)) all
    (none_ended_once c.len-workers.result (jobs_put c.abandon.new.put)
    (none_ran_at_all c.len-workers.result (jobs_put c.args.put.now) (jobs_put c.abandon.new.put)
    (c.requires.ready.nothing_put ∙ ap (λ n. replicate (n + 2) []) (sym all)) c.abandon.ensures.ended))

pub returns-in-Err-clause-others : goal.returns-in-Err-clause-others
returns-in-Err-clause-others g c =
    let all : c.len-workers.result ≡ length c.args.states.items = (let is = c.len-workers.ensures in let ok = c.args.states.ok.0 in omega (arith, is, ok)) in
    let here : c.len-workers.result ≡ workers_of c.args.setting.queues.now =
    (let a = c.len-workers.ensures in let ok = c.args.states.ok.0 in let w = c.requires.ready.workers_are in omega (arith, a, ok, w)) in
    subst (λ n. HasNoEnd (put_at (jobs_put c.abandon.new.put) n) × HasNoEnd (put_at (jobs_put c.abandon.new.put) (n + 1))) here
    (actors_idle c.len-workers.result (jobs_put c.args.put.now) (jobs_put c.abandon.new.put)
    (c.requires.ready.nothing_put ∙ ap (λ n. replicate (n + 2) []) (sym all)) c.abandon.ensures.ended)
