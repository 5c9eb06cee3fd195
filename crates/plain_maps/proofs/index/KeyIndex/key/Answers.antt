use Rattle.std.proofs.Common.{refl}
use Rattle.plain_maps.proofs.Found.{there_lookup, lookup_there, small_there, key_within, length_of_key}
use Rattle.plain_maps.proofs.index.KeyIndex.key.Goals as goal

pub key_at-requires : goal.key_at-requires
key_at-requires c =
    let inside = c.self.inside in
    let had = rw (← c.self.view_is) at c.requires.1 in
    let there = (there_lookup inside.size inside.keys.items inside.is_there.items c.requires.0 c.args.number had).0 in
    let small = small_there inside.size inside.capacity inside.keys.items inside.is_there.items inside.order.numbers _ inside.buckets.items c.self.invariant c.args.number there in
    rw c.deref.ensures.value (key_within inside.size inside.capacity inside.keys.items inside.is_there.items inside.order.numbers _ inside.buckets.items c.self.invariant c.args.number small)

pub returns-clause-key : goal.returns-clause-key
returns-clause-key c =
    let inside = c.self.inside in
    let had = rw (← c.self.view_is) at c.requires.1 in
    let there = (there_lookup inside.size inside.keys.items inside.is_there.items c.requires.0 c.args.number had).0 in
    let read = rw c.deref.ensures.value at c.key_at.ensures in
    rw (← c.self.view_is, read) (lookup_there inside.size inside.keys.items inside.is_there.items _ c.self.invariant.apart c.args.number there refl)

pub returns-clause-size : goal.returns-clause-size
returns-clause-size c =
    let inside = c.self.inside in
    let had = rw (← c.self.view_is) at c.requires.1 in
    let there = (there_lookup inside.size inside.keys.items inside.is_there.items c.requires.0 c.args.number had).0 in
    let small = small_there inside.size inside.capacity inside.keys.items inside.is_there.items inside.order.numbers _ inside.buckets.items c.self.invariant c.args.number there in
    let read = rw c.deref.ensures.value at c.key_at.ensures in
    rw (← c.self.view_is, read) (length_of_key inside.size inside.keys.items c.args.number (key_within inside.size inside.capacity inside.keys.items inside.is_there.items inside.order.numbers _ inside.buckets.items c.self.invariant c.args.number small))
