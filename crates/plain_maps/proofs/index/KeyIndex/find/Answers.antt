use Rattle.std.proofs.Common.{sym}
use Rattle.plain_maps.proofs.Found.{slots_within, found_in_bucket, nowhere, not_in_gap, lookup_there, lookup_none, small_there}
use Rattle.plain_maps.proofs.index.KeyIndex.find.Goals as goal

pub found_in-requires-clause-within : goal.found_in-requires-clause-within
found_in-requires-clause-within c =
    let inside = c.self.inside in
    let home = rw c.deref.ensures.value at c.home_in-home.ensures.home in
    let within = rw (c.deref.ensures.value, home) at c.home_in-home.ensures.within in
    let bucket = rw (c.deref-2.ensures.value, home) at c.bucket_in-bucket.ensures in
    rw (bucket, c.deref-3.ensures.value) (slots_within inside.size inside.capacity inside.keys.items inside.is_there.items inside.order.numbers _ inside.buckets.items c.self.invariant _ within)

pub returns-in-Some-clause-number : goal.returns-in-Some-clause-number
returns-in-Some-clause-number c =
    let inside = c.self.inside in
    let home = rw c.deref.ensures.value at c.home_in-home.ensures.home in
    let within = rw (c.deref.ensures.value, home) at c.home_in-home.ensures.within in
    let bucket = rw (c.deref-2.ensures.value, home) at c.bucket_in-bucket.ensures in
    let found = rw (bucket, c.deref-3.ensures.value, c.in-Some.is) at c.found_in.ensures in
    let is = found_in_bucket inside.size inside.capacity inside.keys.items inside.is_there.items inside.order.numbers _ inside.buckets.items c.self.invariant c.args.key.now within c.in-Some.number (sym found) in
    rw (← c.self.view_is) (sym (lookup_there inside.size inside.keys.items inside.is_there.items c.args.key.now c.self.invariant.apart c.in-Some.number is.0 is.1))

pub returns-then-bucket-eq0-clause-number : goal.returns-then-bucket-eq0-clause-number
returns-then-bucket-eq0-clause-number c =
    let inside = c.self.inside in
    let home = rw c.deref.ensures.value at c.home_in-home.ensures.home in
    let within = rw (c.deref.ensures.value, home) at c.home_in-home.ensures.within in
    let bucket = rw (c.deref-2.ensures.value, home) at c.bucket_in-bucket.ensures in
    let none = rw (bucket, c.deref-3.ensures.value, c.in_default.is) at c.found_in.ensures in
    let idle = rw bucket at c.if-bucket-eq0.true in
    rw (← c.self.view_is) (sym (lookup_none inside.size inside.keys.items inside.is_there.items c.args.key.now (nowhere inside.size inside.capacity inside.keys.items inside.is_there.items inside.order.numbers _ inside.buckets.items c.self.invariant c.args.key.now within (sym none) idle)))

pub returns-in-Ok-clause-number : goal.returns-in-Ok-clause-number
returns-in-Ok-clause-number c =
    let inside = c.self.inside in
    let is_at = rw c.deref-4.ensures.value at c.in-Ok.ensures.found in
    let number = sym c.get.ensures in
    let there = rw number at (c.self.invariant.listed c.in-Ok.at is_at.in_range) in
    let has = rw number at is_at.has_key in
    rw (← c.self.view_is) (sym (lookup_there inside.size inside.keys.items inside.is_there.items c.args.key.now c.self.invariant.apart c.get.result there has))

pub returns-in-Err-clause-number : goal.returns-in-Err-clause-number
returns-in-Err-clause-number c =
    let inside = c.self.inside in
    let home = rw c.deref.ensures.value at c.home_in-home.ensures.home in
    let within = rw (c.deref.ensures.value, home) at c.home_in-home.ensures.within in
    let bucket = rw (c.deref-2.ensures.value, home) at c.bucket_in-bucket.ensures in
    let none = rw (bucket, c.deref-3.ensures.value, c.in_default.is) at c.found_in.ensures in
    let gap = rw c.deref-4.ensures.value at c.in-Err.ensures.absent in
    rw (← c.self.view_is) (sym (lookup_none inside.size inside.keys.items inside.is_there.items c.args.key.now (not_in_gap inside.size inside.capacity inside.keys.items inside.is_there.items inside.order.numbers _ inside.buckets.items c.self.invariant c.args.key.now within (sym none) _ gap)))

pub returns-in-Some-clause-within : goal.returns-in-Some-clause-within
returns-in-Some-clause-within c =
    let inside = c.self.inside in
    let home = rw c.deref.ensures.value at c.home_in-home.ensures.home in
    let within = rw (c.deref.ensures.value, home) at c.home_in-home.ensures.within in
    let bucket = rw (c.deref-2.ensures.value, home) at c.bucket_in-bucket.ensures in
    let found = rw (bucket, c.deref-3.ensures.value, c.in-Some.is) at c.found_in.ensures in
    let is = found_in_bucket inside.size inside.capacity inside.keys.items inside.is_there.items inside.order.numbers _ inside.buckets.items c.self.invariant c.args.key.now within c.in-Some.number (sym found) in
    rw (← c.self.view_is) (small_there inside.size inside.capacity inside.keys.items inside.is_there.items inside.order.numbers _ inside.buckets.items c.self.invariant c.in-Some.number is.0)

pub returns-in-Ok-clause-within : goal.returns-in-Ok-clause-within
returns-in-Ok-clause-within c =
    let inside = c.self.inside in
    let is_at = rw c.deref-4.ensures.value at c.in-Ok.ensures.found in
    let number = sym c.get.ensures in
    let there = rw number at (c.self.invariant.listed c.in-Ok.at is_at.in_range) in
    rw (← c.self.view_is) (small_there inside.size inside.capacity inside.keys.items inside.is_there.items inside.order.numbers _ inside.buckets.items c.self.invariant c.get.result there)
