use Rattle.plain_maps.proofs.Found.{there_lookup, small_there}
use Rattle.plain_maps.proofs.Numbers.{inverse}
use Rattle.plain_maps.proofs.index.KeyIndex.keys_and_numbers.Goals as goal

pub returns : goal.returns
returns c =
    let inside = c.self.inside in
    rw (← c.self.view_is) (record {
      inverse = inverse inside.size inside.keys.items inside.is_there.items c.self.invariant.apart;
      small = λ q n found. small_there inside.size inside.capacity inside.keys.items inside.is_there.items inside.order.numbers _ inside.buckets.items c.self.invariant n (there_lookup inside.size inside.keys.items inside.is_there.items q n found).0;
    })
