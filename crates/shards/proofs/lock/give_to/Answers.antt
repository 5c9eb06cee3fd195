use Rattle.shards.proofs.Moves.{gives_back}
use Rattle.shards.proofs.Holding.{held_of, entries_of}
use Rattle.shards.proofs.lock.give_to.Goals as goal

pub swap-requires : goal.swap-requires
swap-requires c =
    let r = c.requires in
    let me = c.args.seat.now.me in
    let h = held_of me r.taken r.seat.holding in
    (r.seat.table_is, r.lock.0, rw (entries_of me h c.args.entries r.entries.0) (gives_back _ _ _ _ h.shard h.later r.lock.1 h.has r.seat.seated h.holds h.planned h.grown h.made))
