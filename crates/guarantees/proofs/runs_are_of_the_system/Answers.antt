use Rattle.guarantees.proofs.EventLemmas.{run_is_of_system}
use Rattle.guarantees.proofs.runs_are_of_the_system.Goals as goal

pub returns : goal.returns
returns c = run_is_of_system
