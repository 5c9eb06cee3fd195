use Rattle.std.proofs.Common.{◌∙◌, ◌/◌, ◌%◌, ◌<◌, ℕ, length, ap, arith}
use Rattle.std.specs.List.{insert}
use Rattle.plain_maps.specs.NumberBlocks.{block_size, joined}
use Rattle.plain_maps.proofs.BlockLemmas.{place_of, block_read, room_within, put_in}
use Rattle.plain_maps.proofs.number_list.put.Goals as goal

pub insert-requires-clause-place : goal.insert-requires-clause-place
insert-requires-clause-place c =
    let place = place_of c.args.at in
    let bs = c.args.blocks.now.items in
    let within : c.args.at / block_size < length bs = omega (arith, c.requires.place, c.requires.room) in
    rw (block_read bs (c.args.at / block_size) c.index_mut.result.now within c.index_mut.ensures.value)
    (room_within c.args.len bs (c.args.at / block_size) (c.args.at % block_size) c.requires.shaped place.1 (omega (arith, place.0, c.requires.place)) within).0

pub insert-requires-clause-room : goal.insert-requires-clause-room
insert-requires-clause-room c =
    let place = place_of c.args.at in
    let bs = c.args.blocks.now.items in
    let within : c.args.at / block_size < length bs = omega (arith, c.requires.place, c.requires.room) in
    rw (block_read bs (c.args.at / block_size) c.index_mut.result.now within c.index_mut.ensures.value)
    (room_within c.args.len bs (c.args.at / block_size) (c.args.at % block_size) c.requires.shaped place.1 (omega (arith, place.0, c.requires.place)) within).1

pub returns-clause-over : goal.returns-clause-over
returns-clause-over c =
    let place = place_of c.args.at in
    let bs = c.args.blocks.now.items in
    let within : c.args.at / block_size < length bs = omega (arith, c.requires.place, c.requires.room) in
    let block = block_read bs (c.args.at / block_size) c.index_mut.result.now within c.index_mut.ensures.value in
    rw (c.insert.ensures, block)
    (put_in c.args.len bs (c.args.at / block_size) (c.args.at % block_size) c.args.number c.requires.shaped place.1 (omega (arith, place.0, c.requires.place)) within).0

pub returns-clause-joined : goal.returns-clause-joined
returns-clause-joined c =
    let place = place_of c.args.at in
    let bs = c.args.blocks.now.items in
    let within : c.args.at / block_size < length bs = omega (arith, c.requires.place, c.requires.room) in
    let block = block_read bs (c.args.at / block_size) c.index_mut.result.now within c.index_mut.ensures.value in
    rw (c.insert.ensures, block)
    ((put_in c.args.len bs (c.args.at / block_size) (c.args.at % block_size) c.args.number c.requires.shaped place.1 (omega (arith, place.0, c.requires.place)) within).1
    ∙ ap (λ (i : ℕ). insert (joined bs) i c.args.number) place.0)
