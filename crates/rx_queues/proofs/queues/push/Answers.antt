use Rattle.rx_queues.proofs.RuleLemmas.{put_keeps_order, pass_may_hold}
use Rattle.rx_queues.proofs.queues.push.Goals as goal

pub push_as-requires-clause-rule : goal.push_as-requires-clause-rule
push_as-requires-clause-rule g c = (put_keeps_order _ _ _ _ c.requires.pass.1 c.requires.fits, pass_may_hold _ _)
