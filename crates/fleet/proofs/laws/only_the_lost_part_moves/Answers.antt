use Rattle.fleet.proofs.LossLemmas.{only_lost_moves}
use Rattle.fleet.proofs.laws.only_the_lost_part_moves.Goals as goal

pub returns : goal.returns
returns c = only_lost_moves
