use Rattle.shards.proofs.OrderMoves.{order_comes}
use Rattle.shards.proofs.order.visitor.Goals as goal

pub load_new_seat-requires : goal.load_new_seat-requires
load_new_seat-requires c = (c.requires, order_comes _ _ _)
