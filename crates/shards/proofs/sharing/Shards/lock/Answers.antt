use Rattle.std.proofs.Common.{◌<◌, length, arith}
use Rattle.shards.specs.GuardedView.{keyed}
use Rattle.shards.specs.Seats.{IsLockOf}
use Rattle.semantics.proofs.shared.EachLemmas.{each_at}
use Rattle.shards.proofs.sharing.Shards.lock.Goals as goal

pub returns-clause-lock : goal.returns-clause-lock
returns-clause-lock g c =
    let within : c.args.shard < length c.self.inside.locks.items = (let below = c.requires in let sized = c.self.invariant.0.sized in omega (arith, below, sized)) in
    each_at (λ n lock. IsLockOf (g.B.Naming.table n) (keyed (g.B.Naming.plan n) g.B.Naming.order) lock) c.self.inside.locks.items c.args.shard c.index.result.now c.self.invariant.0.locks_are within c.index.ensures
