use Rattle.shards.proofs.Moves.{takes_lock}
use Rattle.shards.proofs.Holding.{empty_of, idle_of}
use Rattle.shards.proofs.lock.take_from.Goals as goal

pub compare_exchange-requires : goal.compare_exchange-requires
compare_exchange-requires c =
    let r = c.requires in
    let me = c.args.seat.now.me in
    (r.seat.table_is, r.lock.0, takes_lock _ _ _ _ _ _ r.taken.0 r.free.0 (empty_of me r.alone) r.seat.seated (idle_of me r.alone r.seat.holding) r.free.1 r.taken.1 r.taken.2 r.taken.3)
