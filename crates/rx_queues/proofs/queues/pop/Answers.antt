use Rattle.rx_queues.proofs.RuleLemmas.{take_keeps_order, pass_may_hold}
use Rattle.rx_queues.proofs.queues.pop.Goals as goal

pub pop_as-requires-clause-rule : goal.pop_as-requires-clause-rule
pop_as-requires-clause-rule g c = (take_keeps_order _ _ c.requires.1, pass_may_hold _ _)
