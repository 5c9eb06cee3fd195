use Rattle.shards.proofs.PlanLemmas.{plan_is}
use Rattle.shards.proofs.plain_opening.plan_at.Goals as goal

pub returns-clause-limits : goal.returns-clause-limits
returns-clause-limits c = plan_is c.args.maps.now c.args.options.now c.args.number _ c.requires.allowed c.requires.options c.requires.shards c.requires.number
