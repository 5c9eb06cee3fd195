use Rattle.guarantees.proofs.StopLemmas.{stopped_is_of_system}
use Rattle.guarantees.proofs.stopped_runs_are_of_the_system.Goals as goal

pub returns : goal.returns
returns c = stopped_is_of_system
