use Rattle.std.proofs.Common.{◌+◌}
use Rattle.shards.proofs.OrderShards.{knows_shard}
use Rattle.shards.proofs.sharing.Shards.order_at.Goals as goal

pub returns : goal.returns
returns g c = knows_shard g.B.Naming.plan g.B.Naming.order g.B.Naming.count (c.self.inside.options.workers + 2) c.self.inside.maps.items c.self.inside.options c.self.inside.order c.args.shard c.self.invariant.1 c.self.invariant.0.plans c.requires
