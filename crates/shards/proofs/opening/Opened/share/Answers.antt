use Rattle.std.proofs.Common.{rules, ◌+◌, sym, subst}
use Rattle.shards.specs.NewShards.{OpenedShards, IsNamed, AreAtOrder}
use Rattle.shards.proofs.Names.{named_each, all_wait, at_order}
use Rattle.shards.proofs.opening.Opened.share.Goals as goal

pub parted-requires : goal.parted-requires
parted-requires g c =
    named_each g.B.Naming.count g.B.Naming.table g.B.Naming.plan g.B.Naming.order c.self.inside.order.shared.table_id c.self.inside.maps.items c.self.inside.options c.self.inside.shards.items c.self.invariant.0
    (subst (λ (o : OpenedShards). IsNamed g.B.Naming.count g.B.Naming.table g.B.Naming.plan g.B.Naming.order o) (sym c.self.view_is) c.requires.named)

pub invariant_of-dealer : goal.invariant_of-dealer
invariant_of-dealer g c =
    let named = subst (λ (o : OpenedShards). IsNamed g.B.Naming.count g.B.Naming.table g.B.Naming.plan g.B.Naming.order o) (sym c.self.view_is) c.requires.named in (
      all_wait g.B.Naming.table g.B.Naming.plan g.B.Naming.order c.self.inside.order.shared.table_id g.B.Naming.count c.in_ok-locks.rooms.items c.self.inside.maps.items c.self.inside.options c.self.inside.shards.items c.in_ok-locks.rows.items c.in_ok-dealt.dealt.items
          c.self.invariant.0 named c.in_ok-locks.ensures.rooms.0 c.in_ok-locks.ensures.rooms.1 c.in_ok-locks.ensures.rows.0 c.in_ok-locks.ensures.rows.1 (search rules),
      subst (λ t. AreAtOrder t c.in_ok-dealt.dealt.items c.self.inside.places.items) (sym named.order_is)
          (at_order c.self.inside.order.shared.table_id (c.self.inside.options.workers + 2) c.in_ok-dealt.dealt.items c.self.inside.places.items c.self.invariant.1.counted c.self.invariant.1.fresh (search rules)),
    )
