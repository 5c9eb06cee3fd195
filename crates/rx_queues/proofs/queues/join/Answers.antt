use Rattle.std.proofs.Common.{rules}
use Rattle.rx_queues.proofs.RuleLemmas.{join_keeps_order, pass_may_hold}
use Rattle.rx_queues.proofs.queues.join.Goals as goal

pub absorb-requires-clause-rule : goal.absorb-requires-clause-rule
absorb-requires-clause-rule c = join_keeps_order _ _ _ _ (search rules) (search rules)

pub learn_as-requires-clause-rule : goal.learn_as-requires-clause-rule
learn_as-requires-clause-rule c = pass_may_hold _ _
