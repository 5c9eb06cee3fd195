use Rattle.guarantees.proofs.RunsAlone.{stopped_runs_alone_are_of_the_system}
use Rattle.guarantees.proofs.stopped_runs_alone_are_of_the_system.Goals as goal

pub returns : goal.returns
returns c = stopped_runs_alone_are_of_the_system
