use Rattle.std.proofs.Common.{ap}
use Rattle.shards.specs.OrderRule.{account, account_deeds}
use Rattle.shards.proofs.OrderMoves.{takes_one}
use Rattle.shards.proofs.order.gather.Goals as goal

pub join_seat-requires : goal.join_seat-requires
join_seat-requires c =
    let r = c.requires in
    let is = r.other.1.1 in
    (r.seat, r.other.1.0, ap (λ m. m.1) is, r.order, takes_one _ _ _ _ _ _ (account r.other.0 (account_deeds c.args.other.me.0)) (ap (λ m. m.0) is))
