use Rattle.guarantees.proofs.OneOutcome.{runs_have_one_outcome}
use Rattle.guarantees.proofs.step_laws.runs_have_one_outcome.Goals as goal

pub returns : goal.returns
returns c = runs_have_one_outcome
