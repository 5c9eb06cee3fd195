use Rattle.std.proofs.Common.{◌≡◌, length, arith}
use Rattle.lru_maps.proofs.Shards.{empty_table, empty_shard}
use Rattle.lru_maps.proofs.shard.LruShard.new.Goals as goal

pub invariant_of-result : goal.invariant_of-result
invariant_of-result c =
    let long : length c.in_ok-ids.ids.items ≡ c.args.capacity = omega (arith, c.in_ok-ids.ensures.len) in
    rw (c.in_ok-index.ensures, c.in_ok-recency.ensures) (empty_shard c.args.size c.args.capacity c.in_ok-ids.ids.items c.requires.size c.requires.some long)

pub returns : goal.returns
returns c =
    let long : length c.in_ok-ids.ids.items ≡ c.args.capacity = omega (arith, c.in_ok-ids.ensures.len) in
    rw (c.in_ok-index.ensures, c.in_ok-recency.ensures) (empty_table c.args.size c.args.capacity c.in_ok-ids.ids.items c.requires.size c.requires.some long)
