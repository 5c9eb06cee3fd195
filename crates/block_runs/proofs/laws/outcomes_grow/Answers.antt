use Rattle.block_runs.proofs.PlanLemmas as plans
use Rattle.block_runs.proofs.laws.outcomes_grow.Goals as goal

pub returns-clause-beginning : goal.returns-clause-beginning
returns-clause-beginning c = plans.outcomes_grow

pub returns-clause-ended : goal.returns-clause-ended
returns-clause-ended c = plans.ended_stay

pub returns-clause-in_two_parts : goal.returns-clause-in_two_parts
returns-clause-in_two_parts c = plans.plans_go_on
