use Rattle.std.proofs.Common.{◌∙◌, ◌+◌, ◌*◌, ◌/◌, ◌%◌, ◌<◌, ℕ, get_or, sym, ap, arith}
use Rattle.std.specs.List.{remove}
use Rattle.plain_maps.specs.NumberBlocks.{block_size, joined}
use Rattle.plain_maps.proofs.BlockLemmas.{place_of, block_read, block_within, number_at, take_out}
use Rattle.plain_maps.proofs.number_list.take.Goals as goal

pub index_mut-requires : goal.index_mut-requires
index_mut-requires c =
    let place = place_of c.args.at in
    let bs = c.args.blocks.now.items in
    let within = block_within c.args.len bs (c.args.at / block_size) (c.args.at % block_size) c.requires.shaped place.1 (omega (arith, place.0, c.requires.place)) in
    omega (arith, within.0)

pub remove-requires : goal.remove-requires
remove-requires c =
    let place = place_of c.args.at in
    let bs = c.args.blocks.now.items in
    let within = block_within c.args.len bs (c.args.at / block_size) (c.args.at % block_size) c.requires.shaped place.1 (omega (arith, place.0, c.requires.place)) in
    rw (block_read bs (c.args.at / block_size) c.index_mut.result.now within.0 c.index_mut.ensures.value) within.1

pub returns-clause-number : goal.returns-clause-number
returns-clause-number c =
    let place = place_of c.args.at in
    let bs = c.args.blocks.now.items in
    let less : c.args.at / block_size * block_size + c.args.at % block_size < c.args.len = omega (arith, place.0, c.requires.place) in
    let within = block_within c.args.len bs (c.args.at / block_size) (c.args.at % block_size) c.requires.shaped place.1 less in
    let block = block_read bs (c.args.at / block_size) c.index_mut.result.now within.0 c.index_mut.ensures.value in
    c.remove.ensures.number ∙ rw block (sym (number_at c.args.len bs (c.args.at / block_size) (c.args.at % block_size) c.requires.shaped place.1 less)) ∙ ap (λ (i : ℕ). get_or (joined bs) i 0) place.0

pub returns-clause-under : goal.returns-clause-under
returns-clause-under c =
    let place = place_of c.args.at in
    let bs = c.args.blocks.now.items in
    let less : c.args.at / block_size * block_size + c.args.at % block_size < c.args.len = omega (arith, place.0, c.requires.place) in
    let within = block_within c.args.len bs (c.args.at / block_size) (c.args.at % block_size) c.requires.shaped place.1 less in
    let block = block_read bs (c.args.at / block_size) c.index_mut.result.now within.0 c.index_mut.ensures.value in
    rw (c.remove.ensures.rest, block) (take_out c.args.len bs (c.args.at / block_size) (c.args.at % block_size) c.requires.shaped place.1 less).0

pub returns-clause-joined : goal.returns-clause-joined
returns-clause-joined c =
    let place = place_of c.args.at in
    let bs = c.args.blocks.now.items in
    let less : c.args.at / block_size * block_size + c.args.at % block_size < c.args.len = omega (arith, place.0, c.requires.place) in
    let within = block_within c.args.len bs (c.args.at / block_size) (c.args.at % block_size) c.requires.shaped place.1 less in
    let block = block_read bs (c.args.at / block_size) c.index_mut.result.now within.0 c.index_mut.ensures.value in
    rw (c.remove.ensures.rest, block)
    ((take_out c.args.len bs (c.args.at / block_size) (c.args.at % block_size) c.requires.shaped place.1 less).1 ∙ ap (λ (i : ℕ). remove (joined bs) i) place.0)
