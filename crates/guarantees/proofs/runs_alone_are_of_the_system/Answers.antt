use Rattle.guarantees.proofs.RunsAlone.{runs_alone_are_of_the_system}
use Rattle.guarantees.proofs.runs_alone_are_of_the_system.Goals as goal

pub returns : goal.returns
returns c = runs_alone_are_of_the_system
