use Rattle.lru_maps.proofs.Uses.{by_use_touched, order_promoted}
use Rattle.lru_maps.proofs.recency.Recency.touch.Goals as goal

pub returns : goal.returns
returns c = record {
  order = rw c.put_first.ensures (order_promoted c.args.number c.args.self.now.cache.entries);
  by_use = λ last now latest by_use. rw c.put_first.ensures (by_use_touched last c.args.number now latest c.args.self.now.cache.entries c.len-valid.ensures.valid.0 by_use);
}
