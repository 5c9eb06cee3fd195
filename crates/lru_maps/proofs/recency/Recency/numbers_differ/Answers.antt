use Rattle.lru_maps.proofs.Uses.{stand_once}
use Rattle.lru_maps.proofs.recency.Recency.numbers_differ.Goals as goal

pub returns : goal.returns
returns c = stand_once c.args.self.now.cache.entries c.len-valid.ensures.valid.0
