use Rattle.std.proofs.Common.{rules}
use Rattle.shard_core.proofs.shared.Ordered.{contents_by_sort}
use Rattle.shard_core.proofs.listing.in_order.Goals as goal

pub returns : goal.returns
returns c value lists =
    contents_by_sort c.args.kind value c.args.entries.items c.sort_by.new.self.items lists c.sort_by.ensures.permutation c.in_ok-sort_by.ensures.sorted (λ a r q k. search rules)
