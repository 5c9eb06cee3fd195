use Rattle.std.proofs.Common.{◌≡◌, ℕ, subst, sym, ap}
use Rattle.semantics.specs.declared.plan.ShardPlan.{ShardPlan}
use Rattle.worked_examples.proofs.FiveEntries.{five_entries}
use Rattle.worked_examples.proofs.passes.two_workers.closed.Goals as goal

pub returns : goal.returns
returns g c =
    let two : (g.B.Naming.plan 0).workers ≡ 2 = ap (λ (plan : ShardPlan). plan.workers) c.planned.ensures.plan in
    five_entries (g.B.Naming.plan 0) g.B.Naming.count c.close.result c.args.passes.items two c.planned.ensures.count c.all_entries_are_somebodys.ensures
    (c.close.ensures.legal 0 c.planned.ensures.count) c.requires.passes c.close.ensures.settled
