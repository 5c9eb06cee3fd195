use Rattle.std.proofs.Common.{[], sym, subst}
use Rattle.crossbeam_queue.specs.Fifo.{Forks}
use Rattle.rx_queues.specs.declared.rule.JobsKnown.{JobsKnown}
use Rattle.rx_queues.specs.Fifo.{IsInOrder, putter, taker}
use Rattle.rx_queues.proofs.RuleLemmas.{opening_keeps_order}
use Rattle.rx_queues.proofs.queues.apart.Goals as goal

pub another-requires-clause-rule : goal.another-requires-clause-rule
another-requires-clause-rule g c =
    let purpose = g.D.Purposed.purpose in
    subst (λ (it : JobsKnown). Forks IsInOrder c.args.both.now.id it (putter purpose []) (taker purpose [])) (sym c.requires.both.1)
    (opening_keeps_order c.args.both.now.id purpose)
