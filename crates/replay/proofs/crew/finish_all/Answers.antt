use Rattle.std.proofs.Common.{◌<◌, ◌+◌, length, sym, ◌∙◌, subst, arith}
use Rattle.std.specs.Prelude.{IfSome}
use Rattle.semantics.specs.Each.{Each}
use Rattle.replay.specs.Crews.{IsLane, IsHandled}
use Rattle.semantics.proofs.shared.EachLemmas.{each_first, each_rest}
use Rattle.replay.proofs.ListLemmas.{each_more, if_some}
use Rattle.replay.proofs.crew.finish_all.Goals as goal

pub settled-handled-requires-clause-lane : goal.settled-handled-requires-clause-lane
settled-handled-requires-clause-lane g c =
    let i = c.workers.invariant in
    let some_left : 0 < length c.workers.lanes.items = (let t = i.left in let test = c.workers-test.true in let end = c.workers.auto.worker-end in omega (arith, t, test, end)) in
    each_first (IsLane c.args.queues.now c.args.capture.now c.args.runner.now) c.workers.worker c.workers.lanes.items c.remove-lane.result i.lanes
    some_left c.remove-lane.ensures.value

pub workers-preserved : goal.workers-preserved
workers-preserved g c =
    let i = c.workers.invariant in
    let some_left : 0 < length c.workers.lanes.items = (let t = i.left in let test = c.workers-test.true in let end = c.workers.auto.worker-end in omega (arith, t, test, end)) in
    record {
      count_is = i.count_is;
      left = (let t = i.left in let shorter = c.remove-lane.ensures.len in let a = c.workers.lanes.ok.0 in let b = c.remove-lane.new.self.ok.0 in omega (arith, t, shorter, a, b, some_left));
      lanes = subst (λ xs. Each (IsLane c.args.queues.now c.args.capture.now c.args.runner.now) (c.workers.worker + 1) xs) (sym c.remove-lane.ensures.items)
          (each_rest (IsLane c.args.queues.now c.args.capture.now c.args.runner.now) c.workers.worker c.workers.lanes.items i.lanes);
      put = c.settled-handled.ensures.put.0;
      puts = c.settled-handled.ensures.put.1 ∙ i.puts;
      all = each_more (IsHandled (g.W.Runner.is_new c.args.runner.now) (g.W.Runner.runs c.args.runner.now) c.args.capture.now.records.items c.len-count.result)
          c.workers.worker c.workers.all c.settled-handled.result c.added-all.result i.all c.settled-handled.ensures.handled c.added-all.ensures;
    }

pub returns-clause-handled : goal.returns-clause-handled
returns-clause-handled g c =
    let i = c.workers.invariant in
    subst (λ n. IfSome c.workers.all (λ all. Each (IsHandled (g.W.Runner.is_new c.args.runner.now) (g.W.Runner.runs c.args.runner.now) c.args.capture.now.records.items n) 0 all.items))
    i.count_is
    (if_some _ (λ v. Each (IsHandled (g.W.Runner.is_new c.args.runner.now) (g.W.Runner.runs c.args.runner.now) c.args.capture.now.records.items c.len-count.result) 0 v.items)
    (λ v h. h.1) c.workers.all i.all)
