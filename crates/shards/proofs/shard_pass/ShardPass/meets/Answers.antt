use Rattle.std.proofs.Common.{sym, ap, ◌∙◌}
use Rattle.shards.specs.ShardPasses.{ShardPassView}
use Rattle.shards.proofs.Holding.{held_of, slot_of}
use Rattle.shards.proofs.shard_pass.ShardPass.meets.Goals as goal

pub slot_mut-requires : goal.slot_mut-requires
slot_mut-requires c =
    let h = held_of c.self.inside.seat.me (ap (λ (v : ShardPassView). v.has_it) c.self.view_is ∙ c.requires.taken) c.self.invariant.holding in
    (ap (λ (v : ShardPassView). v.table) c.self.view_is ∙ sym c.requires.lock.0, (h.shard, slot_of c.self.inside.seat.me h.shard h.has))
