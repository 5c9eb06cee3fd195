use Rattle.std.proofs.Common.{◌≡◌, length, arith}
use Rattle.std.proofs.lemmas.List.{length-map}
use Rattle.plain_maps.specs.HashTable.{with_id, hash_table}
use Rattle.plain_maps.proofs.hash.HashShard.len.Goals as goal

pub returns : goal.returns
returns c =
    let inside = c.self.inside in
    let many : length (hash_table inside.index inside.ids.items).entries ≡ length inside.index.entries = length-map inside.index.entries (with_id inside.ids.items) in
    rw (← c.self.view_is) (omega (arith, many, c.self.invariant.balance, c.self.invariant.id_count))
