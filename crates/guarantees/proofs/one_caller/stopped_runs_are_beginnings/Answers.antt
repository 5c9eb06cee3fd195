use Rattle.guarantees.proofs.RunLemmas.{stopped_is_beginning}
use Rattle.guarantees.proofs.one_caller.stopped_runs_are_beginnings.Goals as goal

pub returns : goal.returns
returns c = stopped_is_beginning c.journals_have_the_calls.ensures c.journals_after_a_refusal.ensures c.stays_one_port.ensures c.finish_leaves.ensures
