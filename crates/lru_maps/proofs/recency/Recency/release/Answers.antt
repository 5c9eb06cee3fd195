use Rattle.lru_maps.proofs.Uses.{by_use_released, order_demoted}
use Rattle.lru_maps.proofs.recency.Recency.release.Goals as goal

pub returns : goal.returns
returns c = record {
  order = rw c.put_last.ensures (order_demoted c.args.number c.args.self.now.cache.entries);
  by_use = λ last by_use. rw c.put_last.ensures (by_use_released last c.args.number c.args.self.now.cache.entries c.len-valid.ensures.valid.0 by_use);
}
