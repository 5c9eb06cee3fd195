use Rattle.guarantees.proofs.MoveLemmas.{steps_are_moves}
use Rattle.guarantees.proofs.step_laws.steps_are_moves.Goals as goal

pub returns : goal.returns
returns c = steps_are_moves
