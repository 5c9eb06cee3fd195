use Rattle.rx_queues.proofs.RuleLemmas.{begins_in_order}
use Rattle.rx_queues.proofs.queues.opened.Goals as goal

pub ruled-requires-clause-rule : goal.ruled-requires-clause-rule
ruled-requires-clause-rule c = begins_in_order
