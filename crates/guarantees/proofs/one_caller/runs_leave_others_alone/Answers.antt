use Rattle.guarantees.proofs.RunLemmas.{others_alone}
use Rattle.guarantees.proofs.one_caller.runs_leave_others_alone.Goals as goal

pub returns : goal.returns
returns c = others_alone c.runs_are_their_meaning.ensures c.leaves_others_alone.ensures
