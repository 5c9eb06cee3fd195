use Rattle.guarantees.proofs.RunLemmas.{run_is_meaning}
use Rattle.guarantees.proofs.one_caller.runs_are_their_meaning.Goals as goal

pub returns : goal.returns
returns c = run_is_meaning c.journals_have_the_calls.ensures c.stays_one_port.ensures c.finish_leaves.ensures
