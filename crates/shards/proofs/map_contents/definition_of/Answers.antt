use Rattle.semantics.proofs.shared.PlanLemmas.{map_at}
use Rattle.shards.proofs.map_contents.definition_of.Goals as goal

pub returns : goal.returns
returns c = map_at c.args.maps.now c.args.map _ c.requires
