use Rattle.shards.proofs.Moves.{marks}
use Rattle.shards.proofs.Holding.{empty_of}
use Rattle.shards.proofs.lock.mark.Goals as goal

pub compare_exchange-requires : goal.compare_exchange-requires
compare_exchange-requires c =
    let r = c.requires in
    (r.seat.table_is, r.lock.0, marks _ _ _ _ _ r.taken.0 (empty_of c.args.seat.now.me r.alone) r.taken.1)
