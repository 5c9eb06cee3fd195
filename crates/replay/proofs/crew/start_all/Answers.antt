use Rattle.std.proofs.Common.{◌<◌, ◌+◌, ◌∷◌, [], length, length-append, ap, sym, ◌∙◌, subst, arith}
use Rattle.semantics.specs.Each.{Each}
use Rattle.replay.specs.Crews.{IsReadyAt, IsLane}
use Rattle.semantics.proofs.shared.EachLemmas.{each_first, each_rest, each_push, each_none, each_start}
use Rattle.replay.proofs.crew.start_all.Invariants.{IsTakeAt}
use Rattle.replay.proofs.crew.start_all.Goals as goal

pub workers-init : goal.workers-init
workers-init g c = record {
  count_is = (let is = c.len-count.ensures in let ok = c.args.states.ok.0 in omega (arith, is, ok));
  takes_left = (let is = c.len-count.ensures in let ok = c.args.states.ok.0 in let enough = c.requires.takes.0 in omega (arith, is, ok, enough));
  takes = each_start (IsTakeAt c.args.queues.now) c.args.takes.items (λ place take there. c.requires.takes.1 place take there);
  states_left = (let is = c.len-count.ensures in let ok = c.args.states.ok.0 in omega (arith, is, ok));
  states = c.requires.states;
  counted = ap (λ xs. length xs) c.requires.room.0;
  room = (let is = c.len-count.ensures in let ok = c.args.states.ok.0 in let room = c.requires.room.1 in omega (arith, is, ok, room));
  lanes = subst (λ xs. Each (IsLane c.args.queues.now c.args.capture.now c.args.runner.now) 0 xs) (sym c.requires.room.0)
      (each_none (IsLane c.args.queues.now c.args.capture.now c.args.runner.now) 0);
}

pub start-requires-clause-take : goal.start-requires-clause-take
start-requires-clause-take g c κs within =
    let i = c.workers.invariant in
    let some_left : 0 < length c.workers.takes.items = (let t = i.takes_left in let test = c.workers-test.true in let end = c.workers.auto.worker-end in omega (arith, t, test, end)) in
    each_first (IsTakeAt c.args.queues.now) c.workers.worker c.workers.takes.items c.remove-take.result i.takes some_left c.remove-take.ensures.value

pub start-requires-clause-state : goal.start-requires-clause-state
start-requires-clause-state g c κs within =
    let i = c.workers.invariant in
    let some_left : 0 < length c.workers.states.items = (let t = i.states_left in let test = c.workers-test.true in let end = c.workers.auto.worker-end in omega (arith, t, test, end)) in
    let ready = each_first (IsReadyAt (g.W.Runner.is_new c.args.runner.now) (g.W.Runner.is_idle c.args.runner.now)) c.workers.worker c.workers.states.items
    c.remove-state.result i.states some_left c.remove-state.ensures.value in
    (ready.is_new, ready.is_idle)

pub workers-preserved : goal.workers-preserved
workers-preserved g c =
    let i = c.workers.invariant in
    let test = c.workers-test.true in
    let end = c.workers.auto.worker-end in
    let some_takes : 0 < length c.workers.takes.items = (let t = i.takes_left in omega (arith, t, test, end)) in
    let some_states : 0 < length c.workers.states.items = (let t = i.states_left in omega (arith, t, test, end)) in
    let one : IsLane c.args.queues.now c.args.capture.now c.args.runner.now c.workers.worker c.in-Some.lane =
    record { queues_are = c.in-Some.ensures.0; capture_is = c.in-Some.ensures.1; runner_is = c.in-Some.ensures.2; worker_is = c.in-Some.ensures.3 } in
    let more = c.push_reserved.ensures.items in
    record {
      count_is = i.count_is;
      takes_left = (let t = i.takes_left in let shorter = c.remove-take.ensures.len in let a = c.workers.takes.ok.0 in let b = c.remove-take.new.self.ok.0 in omega (arith, t, shorter, a, b, some_takes));
      takes = subst (λ xs. Each (IsTakeAt c.args.queues.now) (c.workers.worker + 1) xs) (sym c.remove-take.ensures.items)
          (each_rest (IsTakeAt c.args.queues.now) c.workers.worker c.workers.takes.items i.takes);
      states_left = (let t = i.states_left in let shorter = c.remove-state.ensures.len in let a = c.workers.states.ok.0 in let b = c.remove-state.new.self.ok.0 in omega (arith, t, shorter, a, b, some_states));
      states = subst (λ xs. Each (IsReadyAt (g.W.Runner.is_new c.args.runner.now) (g.W.Runner.is_idle c.args.runner.now)) (c.workers.worker + 1) xs) (sym c.remove-state.ensures.items)
          (each_rest (IsReadyAt (g.W.Runner.is_new c.args.runner.now) (g.W.Runner.is_idle c.args.runner.now)) c.workers.worker c.workers.states.items i.states);
      counted = ap (λ xs. length xs) more ∙ length-append c.workers.lanes.items (c.in-Some.lane ∷ []) ∙ ap (λ n. n + 1) i.counted;
      room = (let r = i.room in let grown = c.push_reserved.ensures.capacity in omega (arith, r, grown));
      lanes = subst (λ xs. Each (IsLane c.args.queues.now c.args.capture.now c.args.runner.now) 0 xs) (sym more)
          (each_push (IsLane c.args.queues.now c.args.capture.now c.args.runner.now) c.workers.lanes.items c.workers.worker c.in-Some.lane i.counted i.lanes one);
    }
