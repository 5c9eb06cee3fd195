use Rattle.std.proofs.Common.{length, sym, arith}
use Rattle.plain_maps.specs.Keyed.{entry_number_of, key_map}
use Rattle.plain_maps.specs.Hashing.{home_of}
use Rattle.plain_maps.specs.Buckets.{bucket_at}
use Rattle.plain_maps.proofs.Homes.{there_below}
use Rattle.plain_maps.proofs.Found.{slots_within, found_in_bucket, found_some, nowhere, not_in_gap, lookup_there, lookup_none, absent_lookups, small_there}
use Rattle.plain_maps.proofs.Changes.{cleared_from_bucket, taken_from_order, removed_count, removed_lookups, removed_freed}
use Rattle.plain_maps.proofs.index.KeyIndex.remove.Goals as goal

pub found_in-requires-clause-within : goal.found_in-requires-clause-within
found_in-requires-clause-within c =
    let inside = c.self.inside in
    let home = rw c.deref.ensures.value at c.home_in-home.ensures.home in
    let within = rw (c.deref.ensures.value, home) at c.home_in-home.ensures.within in
    let bucket = rw (c.deref-2.ensures.value, home) at c.bucket_in-bucket.ensures in
    rw (bucket, c.deref-3.ensures.value) (slots_within inside.size inside.capacity inside.keys.items inside.is_there.items inside.order.numbers _ inside.buckets.items c.self.invariant _ within)

pub index_mut-requires-in-Some : goal.index_mut-requires-in-Some
index_mut-requires-in-Some c =
    let inside = c.self.inside in
    let home = rw c.deref.ensures.value at c.home_in-home.ensures.home in
    let within = rw (c.deref.ensures.value, home) at c.home_in-home.ensures.within in
    let bucket = rw (c.deref-2.ensures.value, home) at c.bucket_in-bucket.ensures in
    let found = sym (rw (bucket, c.deref-3.ensures.value, c.in-Some.is) at c.found_in.ensures) in
    let is = found_in_bucket inside.size inside.capacity inside.keys.items inside.is_there.items inside.order.numbers _ inside.buckets.items c.self.invariant c.args.key.now within c.in-Some.number found in
    let lt = there_below inside.is_there.items c.in-Some.number is.0 in
    omega (arith, lt)

pub invariant_of-self : goal.invariant_of-self
invariant_of-self c =
    let inside = c.self.inside in
    let home = rw c.deref.ensures.value at c.home_in-home.ensures.home in
    let within = rw (c.deref.ensures.value, home) at c.home_in-home.ensures.within in
    let bucket = rw (c.deref-2.ensures.value, home) at c.bucket_in-bucket.ensures in
    let found = sym (rw (bucket, c.deref-3.ensures.value, c.in-Some.is) at c.found_in.ensures) in
    let is = found_in_bucket inside.size inside.capacity inside.keys.items inside.is_there.items inside.order.numbers _ inside.buckets.items c.self.invariant c.args.key.now within c.in-Some.number found in
    let stands = (found_some inside.size inside.keys.items c.args.key.now (bucket_at inside.buckets.items (home_of (length inside.buckets.items) c.args.key.now)) c.in-Some.number found).0 in
    rw (c.cleared.ensures, bucket, home) (cleared_from_bucket inside.size inside.capacity inside.keys.items inside.is_there.items inside.order.numbers _ inside.buckets.items c.self.invariant c.args.key.now within c.in-Some.number is.0 is.1 stands)

pub returns-in-Some-clause-value : goal.returns-in-Some-clause-value
returns-in-Some-clause-value c =
    let inside = c.self.inside in
    let home = rw c.deref.ensures.value at c.home_in-home.ensures.home in
    let within = rw (c.deref.ensures.value, home) at c.home_in-home.ensures.within in
    let bucket = rw (c.deref-2.ensures.value, home) at c.bucket_in-bucket.ensures in
    let found = sym (rw (bucket, c.deref-3.ensures.value, c.in-Some.is) at c.found_in.ensures) in
    let is = found_in_bucket inside.size inside.capacity inside.keys.items inside.is_there.items inside.order.numbers _ inside.buckets.items c.self.invariant c.args.key.now within c.in-Some.number found in
    rw (← c.self.view_is) (sym (lookup_there inside.size inside.keys.items inside.is_there.items c.args.key.now c.self.invariant.apart c.in-Some.number is.0 is.1))

pub returns-in-Some-clause-count : goal.returns-in-Some-clause-count
returns-in-Some-clause-count c =
    let inside = c.self.inside in
    let home = rw c.deref.ensures.value at c.home_in-home.ensures.home in
    let within = rw (c.deref.ensures.value, home) at c.home_in-home.ensures.within in
    let bucket = rw (c.deref-2.ensures.value, home) at c.bucket_in-bucket.ensures in
    let found = sym (rw (bucket, c.deref-3.ensures.value, c.in-Some.is) at c.found_in.ensures) in
    let is = found_in_bucket inside.size inside.capacity inside.keys.items inside.is_there.items inside.order.numbers _ inside.buckets.items c.self.invariant c.args.key.now within c.in-Some.number found in
    rw (← c.self.view_is) (removed_count inside.size inside.capacity inside.keys.items inside.is_there.items inside.order.numbers _ inside.buckets.items c.self.invariant c.args.key.now within c.in-Some.number is.0 is.1)

pub returns-in-Some-clause-lookups : goal.returns-in-Some-clause-lookups
returns-in-Some-clause-lookups c =
    let inside = c.self.inside in
    let home = rw c.deref.ensures.value at c.home_in-home.ensures.home in
    let within = rw (c.deref.ensures.value, home) at c.home_in-home.ensures.within in
    let bucket = rw (c.deref-2.ensures.value, home) at c.bucket_in-bucket.ensures in
    let found = sym (rw (bucket, c.deref-3.ensures.value, c.in-Some.is) at c.found_in.ensures) in
    let is = found_in_bucket inside.size inside.capacity inside.keys.items inside.is_there.items inside.order.numbers _ inside.buckets.items c.self.invariant c.args.key.now within c.in-Some.number found in
    rw (← c.self.view_is) (removed_lookups inside.size inside.capacity inside.keys.items inside.is_there.items inside.order.numbers _ inside.buckets.items c.self.invariant c.args.key.now within c.in-Some.number is.0 is.1)

pub returns-then-bucket-eq0-clause-value : goal.returns-then-bucket-eq0-clause-value
returns-then-bucket-eq0-clause-value c =
    let inside = c.self.inside in
    let home = rw c.deref.ensures.value at c.home_in-home.ensures.home in
    let within = rw (c.deref.ensures.value, home) at c.home_in-home.ensures.within in
    let bucket = rw (c.deref-2.ensures.value, home) at c.bucket_in-bucket.ensures in
    let none = sym (rw (bucket, c.deref-3.ensures.value, c.in_default.is) at c.found_in.ensures) in
    let idle = rw bucket at c.if-bucket-eq0.true in
    rw (← c.self.view_is) (sym (lookup_none inside.size inside.keys.items inside.is_there.items c.args.key.now (nowhere inside.size inside.capacity inside.keys.items inside.is_there.items inside.order.numbers _ inside.buckets.items c.self.invariant c.args.key.now within none idle)))

pub returns-then-bucket-eq0-clause-lookups : goal.returns-then-bucket-eq0-clause-lookups
returns-then-bucket-eq0-clause-lookups c =
    let inside = c.self.inside in
    let home = rw c.deref.ensures.value at c.home_in-home.ensures.home in
    let within = rw (c.deref.ensures.value, home) at c.home_in-home.ensures.within in
    let bucket = rw (c.deref-2.ensures.value, home) at c.bucket_in-bucket.ensures in
    let none = sym (rw (bucket, c.deref-3.ensures.value, c.in_default.is) at c.found_in.ensures) in
    let idle = rw bucket at c.if-bucket-eq0.true in
    let absent = lookup_none inside.size inside.keys.items inside.is_there.items c.args.key.now (nowhere inside.size inside.capacity inside.keys.items inside.is_there.items inside.order.numbers _ inside.buckets.items c.self.invariant c.args.key.now within none idle) in
    rw (← c.self.view_is) (absent_lookups c.args.key.now (entry_number_of (key_map inside.size inside.capacity inside.keys.items inside.is_there.items)) absent)

pub invariant_of-self-in-Ok : goal.invariant_of-self-in-Ok
invariant_of-self-in-Ok c =
    let inside = c.self.inside in
    let home = rw c.deref.ensures.value at c.home_in-home.ensures.home in
    let within = rw (c.deref.ensures.value, home) at c.home_in-home.ensures.within in
    let bucket = rw (c.deref-2.ensures.value, home) at c.bucket_in-bucket.ensures in
    let is_at = rw c.deref-4.ensures.value at c.in-Ok.ensures.found in
    let number = sym c.remove-number.ensures.number in
    let there = rw number at (c.self.invariant.listed c.in-Ok.at is_at.in_range) in
    let has = rw number at is_at.has_key in
    rw (home, bucket, c.remove-number.ensures.numbers) (taken_from_order inside.size inside.capacity inside.keys.items inside.is_there.items inside.order.numbers _ inside.buckets.items c.self.invariant c.args.key.now within c.remove-number.result there has c.in-Ok.at is_at.in_range number _ (omega (arith, c.self.invariant.room, c.remove-number.ensures.room)))

pub returns-in-Ok-clause-value : goal.returns-in-Ok-clause-value
returns-in-Ok-clause-value c =
    let inside = c.self.inside in
    let is_at = rw c.deref-4.ensures.value at c.in-Ok.ensures.found in
    let number = sym c.remove-number.ensures.number in
    let there = rw number at (c.self.invariant.listed c.in-Ok.at is_at.in_range) in
    let has = rw number at is_at.has_key in
    rw (← c.self.view_is) (sym (lookup_there inside.size inside.keys.items inside.is_there.items c.args.key.now c.self.invariant.apart c.remove-number.result there has))

pub returns-in-Ok-clause-count : goal.returns-in-Ok-clause-count
returns-in-Ok-clause-count c =
    let inside = c.self.inside in
    let home = rw c.deref.ensures.value at c.home_in-home.ensures.home in
    let within = rw (c.deref.ensures.value, home) at c.home_in-home.ensures.within in
    let bucket = rw (c.deref-2.ensures.value, home) at c.bucket_in-bucket.ensures in
    let is_at = rw c.deref-4.ensures.value at c.in-Ok.ensures.found in
    let number = sym c.remove-number.ensures.number in
    let there = rw number at (c.self.invariant.listed c.in-Ok.at is_at.in_range) in
    let has = rw number at is_at.has_key in
    rw (← c.self.view_is) (removed_count inside.size inside.capacity inside.keys.items inside.is_there.items inside.order.numbers _ inside.buckets.items c.self.invariant c.args.key.now within c.remove-number.result there has)

pub returns-in-Ok-clause-lookups : goal.returns-in-Ok-clause-lookups
returns-in-Ok-clause-lookups c =
    let inside = c.self.inside in
    let home = rw c.deref.ensures.value at c.home_in-home.ensures.home in
    let within = rw (c.deref.ensures.value, home) at c.home_in-home.ensures.within in
    let bucket = rw (c.deref-2.ensures.value, home) at c.bucket_in-bucket.ensures in
    let is_at = rw c.deref-4.ensures.value at c.in-Ok.ensures.found in
    let number = sym c.remove-number.ensures.number in
    let there = rw number at (c.self.invariant.listed c.in-Ok.at is_at.in_range) in
    let has = rw number at is_at.has_key in
    rw (← c.self.view_is) (removed_lookups inside.size inside.capacity inside.keys.items inside.is_there.items inside.order.numbers _ inside.buckets.items c.self.invariant c.args.key.now within c.remove-number.result there has)

pub returns-in-Err-clause-value : goal.returns-in-Err-clause-value
returns-in-Err-clause-value c =
    let inside = c.self.inside in
    let home = rw c.deref.ensures.value at c.home_in-home.ensures.home in
    let within = rw (c.deref.ensures.value, home) at c.home_in-home.ensures.within in
    let bucket = rw (c.deref-2.ensures.value, home) at c.bucket_in-bucket.ensures in
    let none = sym (rw (bucket, c.deref-3.ensures.value, c.in_default.is) at c.found_in.ensures) in
    let gap = rw c.deref-4.ensures.value at c.in-Err.ensures.absent in
    rw (← c.self.view_is) (sym (lookup_none inside.size inside.keys.items inside.is_there.items c.args.key.now (not_in_gap inside.size inside.capacity inside.keys.items inside.is_there.items inside.order.numbers _ inside.buckets.items c.self.invariant c.args.key.now within none _ gap)))

pub returns-in-Err-clause-lookups : goal.returns-in-Err-clause-lookups
returns-in-Err-clause-lookups c =
    let inside = c.self.inside in
    let home = rw c.deref.ensures.value at c.home_in-home.ensures.home in
    let within = rw (c.deref.ensures.value, home) at c.home_in-home.ensures.within in
    let bucket = rw (c.deref-2.ensures.value, home) at c.bucket_in-bucket.ensures in
    let none = sym (rw (bucket, c.deref-3.ensures.value, c.in_default.is) at c.found_in.ensures) in
    let gap = rw c.deref-4.ensures.value at c.in-Err.ensures.absent in
    let absent = lookup_none inside.size inside.keys.items inside.is_there.items c.args.key.now (not_in_gap inside.size inside.capacity inside.keys.items inside.is_there.items inside.order.numbers _ inside.buckets.items c.self.invariant c.args.key.now within none _ gap) in
    rw (← c.self.view_is) (absent_lookups c.args.key.now (entry_number_of (key_map inside.size inside.capacity inside.keys.items inside.is_there.items)) absent)

pub returns-in-Some-clause-within : goal.returns-in-Some-clause-within
returns-in-Some-clause-within c =
    let inside = c.self.inside in
    let home = rw c.deref.ensures.value at c.home_in-home.ensures.home in
    let within = rw (c.deref.ensures.value, home) at c.home_in-home.ensures.within in
    let bucket = rw (c.deref-2.ensures.value, home) at c.bucket_in-bucket.ensures in
    let found = sym (rw (bucket, c.deref-3.ensures.value, c.in-Some.is) at c.found_in.ensures) in
    let is = found_in_bucket inside.size inside.capacity inside.keys.items inside.is_there.items inside.order.numbers _ inside.buckets.items c.self.invariant c.args.key.now within c.in-Some.number found in
    rw (← c.self.view_is) (small_there inside.size inside.capacity inside.keys.items inside.is_there.items inside.order.numbers _ inside.buckets.items c.self.invariant c.in-Some.number is.0)

pub returns-in-Some-clause-freed : goal.returns-in-Some-clause-freed
returns-in-Some-clause-freed c =
    let inside = c.self.inside in
    let home = rw c.deref.ensures.value at c.home_in-home.ensures.home in
    let within = rw (c.deref.ensures.value, home) at c.home_in-home.ensures.within in
    let bucket = rw (c.deref-2.ensures.value, home) at c.bucket_in-bucket.ensures in
    let found = sym (rw (bucket, c.deref-3.ensures.value, c.in-Some.is) at c.found_in.ensures) in
    let is = found_in_bucket inside.size inside.capacity inside.keys.items inside.is_there.items inside.order.numbers _ inside.buckets.items c.self.invariant c.args.key.now within c.in-Some.number found in
    removed_freed inside.size inside.capacity inside.keys.items inside.is_there.items inside.order.numbers _ inside.buckets.items c.self.invariant c.args.key.now within c.in-Some.number is.0 is.1

pub returns-in-Ok-clause-within : goal.returns-in-Ok-clause-within
returns-in-Ok-clause-within c =
    let inside = c.self.inside in
    let home = rw c.deref.ensures.value at c.home_in-home.ensures.home in
    let within = rw (c.deref.ensures.value, home) at c.home_in-home.ensures.within in
    let bucket = rw (c.deref-2.ensures.value, home) at c.bucket_in-bucket.ensures in
    let is_at = rw c.deref-4.ensures.value at c.in-Ok.ensures.found in
    let number = sym c.remove-number.ensures.number in
    let there = rw number at (c.self.invariant.listed c.in-Ok.at is_at.in_range) in
    let has = rw number at is_at.has_key in
    rw (← c.self.view_is) (small_there inside.size inside.capacity inside.keys.items inside.is_there.items inside.order.numbers _ inside.buckets.items c.self.invariant c.remove-number.result there)

pub returns-in-Ok-clause-freed : goal.returns-in-Ok-clause-freed
returns-in-Ok-clause-freed c =
    let inside = c.self.inside in
    let home = rw c.deref.ensures.value at c.home_in-home.ensures.home in
    let within = rw (c.deref.ensures.value, home) at c.home_in-home.ensures.within in
    let bucket = rw (c.deref-2.ensures.value, home) at c.bucket_in-bucket.ensures in
    let is_at = rw c.deref-4.ensures.value at c.in-Ok.ensures.found in
    let number = sym c.remove-number.ensures.number in
    let there = rw number at (c.self.invariant.listed c.in-Ok.at is_at.in_range) in
    let has = rw number at is_at.has_key in
    removed_freed inside.size inside.capacity inside.keys.items inside.is_there.items inside.order.numbers _ inside.buckets.items c.self.invariant c.args.key.now within c.remove-number.result there has
