use Rattle.fleet.proofs.LossLemmas.{same_side}
use Rattle.fleet.proofs.laws.flows_move_only_at_the_loss.Goals as goal

pub returns : goal.returns
returns c = same_side
