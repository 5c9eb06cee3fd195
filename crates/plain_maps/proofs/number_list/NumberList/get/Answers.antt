use Rattle.std.proofs.Common.{◌≡◌, ◌∙◌, ◌+◌, ◌*◌, ◌/◌, ◌%◌, ◌<◌, ℕ, length, get_or, sym, ap, arith}
use Rattle.plain_maps.specs.NumberBlocks.{block_size, joined}
use Rattle.plain_maps.proofs.BlockLemmas.{place_of, block_read, block_within, joined_length, number_at}
use Rattle.plain_maps.proofs.number_list.NumberList.get.Goals as goal

pub index-requires : goal.index-requires
index-requires c =
    let n = c.self.inside.len in
    let bs = c.self.inside.blocks.items in
    let place = place_of c.args.at in
    let lt : c.args.at < length (joined bs) = rw (← c.self.view_is) at c.requires in
    let less : c.args.at / block_size * block_size + c.args.at % block_size < n = omega (arith, lt, place.0, joined_length n bs c.self.invariant.shaped) in
    let within = block_within n bs (c.args.at / block_size) (c.args.at % block_size) c.self.invariant.shaped place.1 less in
    omega (arith, within.0)

pub get-requires : goal.get-requires
get-requires c =
    let n = c.self.inside.len in
    let bs = c.self.inside.blocks.items in
    let place = place_of c.args.at in
    let lt : c.args.at < length (joined bs) = rw (← c.self.view_is) at c.requires in
    let less : c.args.at / block_size * block_size + c.args.at % block_size < n = omega (arith, lt, place.0, joined_length n bs c.self.invariant.shaped) in
    let within = block_within n bs (c.args.at / block_size) (c.args.at % block_size) c.self.invariant.shaped place.1 less in
    rw (block_read bs (c.args.at / block_size) c.index.result.now within.0 c.index.ensures) within.1

pub returns : goal.returns
returns c =
    let n = c.self.inside.len in
    let bs = c.self.inside.blocks.items in
    let place = place_of c.args.at in
    let lt : c.args.at < length (joined bs) = rw (← c.self.view_is) at c.requires in
    let less : c.args.at / block_size * block_size + c.args.at % block_size < n = omega (arith, lt, place.0, joined_length n bs c.self.invariant.shaped) in
    let within = block_within n bs (c.args.at / block_size) (c.args.at % block_size) c.self.invariant.shaped place.1 less in
    let block = block_read bs (c.args.at / block_size) c.index.result.now within.0 c.index.ensures in
    let is : get_or c.index.result.now (c.args.at % block_size) 0 ≡ get_or (joined bs) c.args.at 0 =
    rw block (sym (number_at n bs (c.args.at / block_size) (c.args.at % block_size) c.self.invariant.shaped place.1 less)) ∙ ap (λ (i : ℕ). get_or (joined bs) i 0) place.0 in
    rw (← c.self.view_is) (c.get.ensures ∙ is)
