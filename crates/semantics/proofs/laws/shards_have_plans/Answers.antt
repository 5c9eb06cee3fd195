use Rattle.semantics.proofs.shared.PlanLemmas as plans
use Rattle.semantics.proofs.laws.shards_have_plans.Goals as goal

pub returns : goal.returns
returns c = plans.shards_have_plans
