use Rattle.fleet.proofs.LossLemmas.{same_part}
use Rattle.fleet.proofs.laws.flows_are_in_one_part.Goals as goal

pub returns : goal.returns
returns c = same_part
