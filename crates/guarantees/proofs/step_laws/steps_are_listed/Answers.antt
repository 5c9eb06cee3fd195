use Rattle.guarantees.proofs.ListedSteps.{steps_are_listed, moves_lead_to_one}
use Rattle.guarantees.proofs.step_laws.steps_are_listed.Goals as goal

pub returns-clause-listed : goal.returns-clause-listed
returns-clause-listed c = steps_are_listed

pub returns-clause-one : goal.returns-clause-one
returns-clause-one c = moves_lead_to_one
