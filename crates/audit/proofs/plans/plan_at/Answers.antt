use Rattle.audit.proofs.PlanFacts.{plan_is, limits_are}
use Rattle.audit.proofs.plans.plan_at.Goals as goal

pub returns-clause-limits : goal.returns-clause-limits
returns-clause-limits c =
    limits_are c.args.maps.now c.args.options.now c.args.number _ c.requires.maps c.requires.options (plan_is c.args.maps.now c.args.options.now c.args.number _ c.requires.options c.requires.number)
