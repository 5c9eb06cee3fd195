use Rattle.shards.proofs.OrderMoves.{order_ends}
use Rattle.shards.proofs.order.end.Goals as goal

pub returns : goal.returns
returns c = order_ends _ _ _ _ _ _ c.close_with-closed.ensures.values.2
