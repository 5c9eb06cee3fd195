use Rattle.steer.proofs.WholeProgram as shipped
use Rattle.steer.proofs.laws.steers.Goals as goal

pub returns-clause-plan : goal.returns-clause-plan
returns-clause-plan c = shipped.shipped_steers

pub returns-clause-results : goal.returns-clause-results
returns-clause-results c = shipped.exited_runs
