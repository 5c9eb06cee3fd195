use Rattle.std.proofs.Common.{◌∙◌, ◌+◌, sym, arith}
use Rattle.plain_maps.proofs.BlockLemmas.{block_read, block_read_after, under_within, after_some, short_fits_after, took_over}
use Rattle.plain_maps.proofs.number_list.take_over.Goals as goal

pub index_mut-requires : goal.index_mut-requires
index_mut-requires c =
    let next = after_some c.args.len c.args.blocks.now.items c.args.here c.requires.under c.requires.more in
    omega (arith, next.0)

pub pop_front-first-requires : goal.pop_front-first-requires
pop_front-first-requires c =
    let bs = c.args.blocks.now.items in
    let next = after_some c.args.len bs c.args.here c.requires.under c.requires.more in
    rw (block_read bs (c.args.here + 1) c.index_mut.result.now next.0 c.index_mut.ensures.value) next.1

pub index_mut-requires-2 : goal.index_mut-requires-2
index_mut-requires-2 c =
    let within = under_within c.args.len c.args.blocks.now.items c.args.here c.requires.under in
    omega (arith, within)

pub push_back-requires : goal.push_back-requires
push_back-requires c =
    let bs = c.args.blocks.now.items in
    let within = under_within c.args.len bs c.args.here c.requires.under in
    rw (block_read_after bs c.args.here (c.args.here + 1) c.pop_front-first.new.self c.index_mut-2.result.now within c.index_mut-2.ensures.value)
    (short_fits_after c.args.len bs c.args.here c.pop_front-first.new.self c.requires.under)

pub returns-clause-under : goal.returns-clause-under
returns-clause-under c =
    let bs = c.args.blocks.now.items in
    let within = under_within c.args.len bs c.args.here c.requires.under in
    let next = after_some c.args.len bs c.args.here c.requires.under c.requires.more in
    let block = block_read bs (c.args.here + 1) c.index_mut.result.now next.0 c.index_mut.ensures.value in
    let after = block_read_after bs c.args.here (c.args.here + 1) c.pop_front-first.new.self c.index_mut-2.result.now within c.index_mut-2.ensures.value in
    rw (c.push_back.ensures, after)
    (took_over c.args.len bs c.args.here c.pop_front-first.result c.pop_front-first.new.self c.requires.under c.requires.more (sym block ∙ c.pop_front-first.ensures)).0

pub returns-clause-joined : goal.returns-clause-joined
returns-clause-joined c =
    let bs = c.args.blocks.now.items in
    let within = under_within c.args.len bs c.args.here c.requires.under in
    let next = after_some c.args.len bs c.args.here c.requires.under c.requires.more in
    let block = block_read bs (c.args.here + 1) c.index_mut.result.now next.0 c.index_mut.ensures.value in
    let after = block_read_after bs c.args.here (c.args.here + 1) c.pop_front-first.new.self c.index_mut-2.result.now within c.index_mut-2.ensures.value in
    rw (c.push_back.ensures, after)
    (took_over c.args.len bs c.args.here c.pop_front-first.result c.pop_front-first.new.self c.requires.under c.requires.more (sym block ∙ c.pop_front-first.ensures)).1
