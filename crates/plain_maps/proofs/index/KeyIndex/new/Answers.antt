use Rattle.std.proofs.Common.{◌≡◌, ◌*◌, length, arith, refl}
use Rattle.plain_maps.proofs.Changes.{empty_index, numbers_none}
use Rattle.plain_maps.proofs.index.KeyIndex.new.Goals as goal

pub invariant_of-result : goal.invariant_of-result
invariant_of-result c =
    let long : length c.in_ok-vec.field-0.items ≡ c.args.capacity * c.args.size = omega (arith, c.in_ok-vec.ensures.len, c.in_ok-vec.field-0.ok) in
    empty_index c.args.size c.args.capacity _ _ _ _ c.bucket_count.result _ long (c.in_ok-vec-2.ensures.items_if_clones_equal (λ y same. same)) c.in_ok-new.ensures.numbers c.requires.capacity c.in_ok-new.ensures.room (c.in_ok-vec-3.ensures.items_if_clones_equal (λ y same. same)) c.bucket_count.ensures.some

pub returns : goal.returns
returns c =
    let unset = c.in_ok-vec-2.ensures.items_if_clones_equal (λ y same. same) in
    rw (unset, numbers_none 0 c.args.capacity) refl
