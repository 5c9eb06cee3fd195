use Rattle.std.proofs.Common.{ap, arith}
use Rattle.shards.proofs.Moves.{deals}
use Rattle.shards.proofs.new_shard.new_seats.Goals as goal

pub split_seat-seat-requires : goal.split_seat-seat-requires
split_seat-seat-requires c =
    let i = c.callers.invariant in
    (i.table_is, (let some = c.requires.lock.0 in omega (arith, some)), deals _ _ _ (ap (λ x. x.0.seated) i.me_is) (ap (λ x. x.0.deals) i.me_is) (ap (λ x. x.0.acts) i.me_is) (ap (λ x. x.0.holds) i.me_is))
