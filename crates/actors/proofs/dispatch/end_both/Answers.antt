use Rattle.actors.proofs.shared.HandLemmas.{both_ended}
use Rattle.actors.proofs.dispatch.end_both.Goals as goal

pub returns-clause-put : goal.returns-clause-put
returns-clause-put g c = both_ended _ _ _ _ c.put_waiting.ensures.put c.put_waiting-2.ensures.put
