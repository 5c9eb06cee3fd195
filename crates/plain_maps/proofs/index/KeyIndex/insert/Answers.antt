use Rattle.std.proofs.Common.{◌<◌, ◌≤◌, length, sym, ◌∙◌, arith}
use Rattle.plain_maps.specs.Hashing.{home_of}
use Rattle.plain_maps.specs.Buckets.{bucket_at}
use Rattle.plain_maps.proofs.Found.{key_within, unset_if_unused, none_there, overwritten_whole, length_of_key}
use Rattle.plain_maps.proofs.Changes.{put_in_bucket, put_in_order, inserted_count, inserted_lookups, room_in_order, over_small}
use Rattle.plain_maps.proofs.index.KeyIndex.insert.Goals as goal

pub invariant_of-self : goal.invariant_of-self
invariant_of-self c =
    let inside = c.self.inside in
    let home = rw c.deref.ensures.value at c.home_in-home.ensures.home in
    let within = rw (c.deref.ensures.value, home) at c.home_in-home.ensures.within in
    let bucket = rw (c.deref-2.ensures.value, home) at c.bucket_in-bucket.ensures in
    let small = rw (← c.self.view_is) at c.requires.number in
    let unused = rw (← c.self.view_is) at c.requires.unused in
    let absent = rw (← c.self.view_is) at c.requires.absent in
    let size = rw (← c.self.view_is) at c.requires.size in
    let unset = unset_if_unused inside.size inside.keys.items inside.is_there.items c.self.invariant.apart c.args.number unused in
    let none = none_there inside.size inside.keys.items inside.is_there.items c.self.invariant.apart c.args.key.now absent in
    let fits = key_within inside.size inside.capacity inside.keys.items inside.is_there.items inside.order.numbers _ inside.buckets.items c.self.invariant c.args.number small in
    let here = c.write_at.ensures.here ∙ overwritten_whole c.args.key.now _ (size ∙ sym (length_of_key inside.size inside.keys.items c.args.number fits)) in
    let put = sym (rw (bucket, c.in-Some.is) at c.placed.ensures) in
    rw home (put_in_bucket inside.size inside.capacity inside.keys.items inside.is_there.items inside.order.numbers _ inside.buckets.items c.self.invariant c.args.key.now within c.args.number small unset none c.write_at.new.bytes.items c.write_at.ensures.len here c.write_at.ensures.elsewhere c.in-Some.more put)

pub returns-in-Some-clause-count : goal.returns-in-Some-clause-count
returns-in-Some-clause-count c =
    let inside = c.self.inside in
    let home = rw c.deref.ensures.value at c.home_in-home.ensures.home in
    let within = rw (c.deref.ensures.value, home) at c.home_in-home.ensures.within in
    let bucket = rw (c.deref-2.ensures.value, home) at c.bucket_in-bucket.ensures in
    let small = rw (← c.self.view_is) at c.requires.number in
    let unused = rw (← c.self.view_is) at c.requires.unused in
    let absent = rw (← c.self.view_is) at c.requires.absent in
    let size = rw (← c.self.view_is) at c.requires.size in
    let unset = unset_if_unused inside.size inside.keys.items inside.is_there.items c.self.invariant.apart c.args.number unused in
    let none = none_there inside.size inside.keys.items inside.is_there.items c.self.invariant.apart c.args.key.now absent in
    let fits = key_within inside.size inside.capacity inside.keys.items inside.is_there.items inside.order.numbers _ inside.buckets.items c.self.invariant c.args.number small in
    let here = c.write_at.ensures.here ∙ overwritten_whole c.args.key.now _ (size ∙ sym (length_of_key inside.size inside.keys.items c.args.number fits)) in
    rw (← c.self.view_is) (inserted_count inside.size inside.capacity inside.keys.items inside.is_there.items inside.order.numbers _ inside.buckets.items c.self.invariant c.args.key.now within c.args.number small unset none c.write_at.new.bytes.items c.write_at.ensures.len here c.write_at.ensures.elsewhere)

pub returns-in-Some-clause-lookups : goal.returns-in-Some-clause-lookups
returns-in-Some-clause-lookups c =
    let inside = c.self.inside in
    let home = rw c.deref.ensures.value at c.home_in-home.ensures.home in
    let within = rw (c.deref.ensures.value, home) at c.home_in-home.ensures.within in
    let bucket = rw (c.deref-2.ensures.value, home) at c.bucket_in-bucket.ensures in
    let small = rw (← c.self.view_is) at c.requires.number in
    let unused = rw (← c.self.view_is) at c.requires.unused in
    let absent = rw (← c.self.view_is) at c.requires.absent in
    let size = rw (← c.self.view_is) at c.requires.size in
    let unset = unset_if_unused inside.size inside.keys.items inside.is_there.items c.self.invariant.apart c.args.number unused in
    let none = none_there inside.size inside.keys.items inside.is_there.items c.self.invariant.apart c.args.key.now absent in
    let fits = key_within inside.size inside.capacity inside.keys.items inside.is_there.items inside.order.numbers _ inside.buckets.items c.self.invariant c.args.number small in
    let here = c.write_at.ensures.here ∙ overwritten_whole c.args.key.now _ (size ∙ sym (length_of_key inside.size inside.keys.items c.args.number fits)) in
    rw (← c.self.view_is) (inserted_lookups inside.size inside.capacity inside.keys.items inside.is_there.items inside.order.numbers _ inside.buckets.items c.self.invariant c.args.key.now within c.args.number small unset none c.write_at.new.bytes.items c.write_at.ensures.len here c.write_at.ensures.elsewhere)

pub unreachable-requires : goal.unreachable-requires
unreachable-requires c =
    let inside = c.self.inside in
    let absent = rw (← c.self.view_is) at c.requires.absent in
    let is_at = rw c.deref-3.ensures.value at c.in-Ok.ensures.found in
    none_there inside.size inside.keys.items inside.is_there.items c.self.invariant.apart c.args.key.now absent _ (c.self.invariant.listed c.in-Ok.field-0 is_at.in_range) is_at.has_key

pub insert-requires-clause-place : goal.insert-requires-clause-place
insert-requires-clause-place c =
    let gap = rw c.deref-3.ensures.value at c.in-Err.ensures.absent in
    gap.in_range

pub insert-requires-clause-room : goal.insert-requires-clause-room
insert-requires-clause-room c =
    let inside = c.self.inside in
    let small = rw (← c.self.view_is) at c.requires.number in
    let unused = rw (← c.self.view_is) at c.requires.unused in
    let unset = unset_if_unused inside.size inside.keys.items inside.is_there.items c.self.invariant.apart c.args.number unused in
    let room = room_in_order inside.size inside.capacity inside.keys.items inside.is_there.items inside.order.numbers _ inside.buckets.items c.self.invariant c.args.number small unset in
    omega (arith, room, c.self.invariant.room)

pub overflow_add-over : goal.overflow_add-over
overflow_add-over c =
    let inside = c.self.inside in
    let home = rw c.deref.ensures.value at c.home_in-home.ensures.home in
    let within = rw (c.deref.ensures.value, home) at c.home_in-home.ensures.within in
    let bucket = rw (c.deref-2.ensures.value, home) at c.bucket_in-bucket.ensures in
    let small = rw (← c.self.view_is) at c.requires.number in
    let unused = rw (← c.self.view_is) at c.requires.unused in
    let unset = unset_if_unused inside.size inside.keys.items inside.is_there.items c.self.invariant.apart c.args.number unused in
    let over : (bucket_at inside.buckets.items (home_of (length inside.buckets.items) c.args.key.now)).over < 4294967295 = over_small inside.size inside.capacity inside.keys.items inside.is_there.items inside.order.numbers _ inside.buckets.items c.self.invariant c.args.number small unset (home_of (length inside.buckets.items) c.args.key.now) within in
    rw bucket (omega (arith, over))

pub invariant_of-self-2 : goal.invariant_of-self-2
invariant_of-self-2 c =
    let inside = c.self.inside in
    let home = rw c.deref.ensures.value at c.home_in-home.ensures.home in
    let within = rw (c.deref.ensures.value, home) at c.home_in-home.ensures.within in
    let bucket = rw (c.deref-2.ensures.value, home) at c.bucket_in-bucket.ensures in
    let small = rw (← c.self.view_is) at c.requires.number in
    let unused = rw (← c.self.view_is) at c.requires.unused in
    let absent = rw (← c.self.view_is) at c.requires.absent in
    let size = rw (← c.self.view_is) at c.requires.size in
    let unset = unset_if_unused inside.size inside.keys.items inside.is_there.items c.self.invariant.apart c.args.number unused in
    let none = none_there inside.size inside.keys.items inside.is_there.items c.self.invariant.apart c.args.key.now absent in
    let fits_key = key_within inside.size inside.capacity inside.keys.items inside.is_there.items inside.order.numbers _ inside.buckets.items c.self.invariant c.args.number small in
    let here = c.write_at-2.ensures.here ∙ overwritten_whole c.args.key.now _ (size ∙ sym (length_of_key inside.size inside.keys.items c.args.number fits_key)) in
    let full = sym (rw (bucket, c.in_default.is) at c.placed.ensures) in
    let gap = rw c.deref-3.ensures.value at c.in-Err.ensures.absent in
    let spots : inside.capacity ≤ c.insert.new.self.room = omega (arith, c.self.invariant.room, c.insert.ensures.room) in
    rw (home, bucket, c.insert.ensures.numbers) (put_in_order inside.size inside.capacity inside.keys.items inside.is_there.items inside.order.numbers _ inside.buckets.items c.self.invariant c.args.key.now within c.args.number small unset none c.write_at-2.new.bytes.items c.write_at-2.ensures.len here c.write_at-2.ensures.elsewhere c.in-Err.at gap full c.self.invariant.room c.insert.new.self.room spots)

pub returns-clause-count : goal.returns-clause-count
returns-clause-count c =
    let inside = c.self.inside in
    let home = rw c.deref.ensures.value at c.home_in-home.ensures.home in
    let within = rw (c.deref.ensures.value, home) at c.home_in-home.ensures.within in
    let bucket = rw (c.deref-2.ensures.value, home) at c.bucket_in-bucket.ensures in
    let small = rw (← c.self.view_is) at c.requires.number in
    let unused = rw (← c.self.view_is) at c.requires.unused in
    let absent = rw (← c.self.view_is) at c.requires.absent in
    let size = rw (← c.self.view_is) at c.requires.size in
    let unset = unset_if_unused inside.size inside.keys.items inside.is_there.items c.self.invariant.apart c.args.number unused in
    let none = none_there inside.size inside.keys.items inside.is_there.items c.self.invariant.apart c.args.key.now absent in
    let fits = key_within inside.size inside.capacity inside.keys.items inside.is_there.items inside.order.numbers _ inside.buckets.items c.self.invariant c.args.number small in
    let here = c.write_at-2.ensures.here ∙ overwritten_whole c.args.key.now _ (size ∙ sym (length_of_key inside.size inside.keys.items c.args.number fits)) in
    rw (← c.self.view_is) (inserted_count inside.size inside.capacity inside.keys.items inside.is_there.items inside.order.numbers _ inside.buckets.items c.self.invariant c.args.key.now within c.args.number small unset none c.write_at-2.new.bytes.items c.write_at-2.ensures.len here c.write_at-2.ensures.elsewhere)

pub returns-clause-lookups : goal.returns-clause-lookups
returns-clause-lookups c =
    let inside = c.self.inside in
    let home = rw c.deref.ensures.value at c.home_in-home.ensures.home in
    let within = rw (c.deref.ensures.value, home) at c.home_in-home.ensures.within in
    let bucket = rw (c.deref-2.ensures.value, home) at c.bucket_in-bucket.ensures in
    let small = rw (← c.self.view_is) at c.requires.number in
    let unused = rw (← c.self.view_is) at c.requires.unused in
    let absent = rw (← c.self.view_is) at c.requires.absent in
    let size = rw (← c.self.view_is) at c.requires.size in
    let unset = unset_if_unused inside.size inside.keys.items inside.is_there.items c.self.invariant.apart c.args.number unused in
    let none = none_there inside.size inside.keys.items inside.is_there.items c.self.invariant.apart c.args.key.now absent in
    let fits = key_within inside.size inside.capacity inside.keys.items inside.is_there.items inside.order.numbers _ inside.buckets.items c.self.invariant c.args.number small in
    let here = c.write_at-2.ensures.here ∙ overwritten_whole c.args.key.now _ (size ∙ sym (length_of_key inside.size inside.keys.items c.args.number fits)) in
    rw (← c.self.view_is) (inserted_lookups inside.size inside.capacity inside.keys.items inside.is_there.items inside.order.numbers _ inside.buckets.items c.self.invariant c.args.key.now within c.args.number small unset none c.write_at-2.new.bytes.items c.write_at-2.ensures.len here c.write_at-2.ensures.elsewhere)
