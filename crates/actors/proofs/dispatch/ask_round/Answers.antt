use Rattle.rx_queues.specs.declared.job.Job.TheVariants.{Note}
use Rattle.actors.proofs.shared.HandLemmas.{one_put}
use Rattle.actors.proofs.dispatch.ask_round.Goals as goal

pub returns-clause-put : goal.returns-clause-put
returns-clause-put g c = one_put _ Note _ _ c.put_waiting.ensures.put
