use Rattle.std.proofs.Common.{◌∙◌, ◌+◌, ◌<◌, length, sym, arith}
use Rattle.plain_maps.proofs.BlockLemmas.{block_read, block_read_after, over_within, over_long, after_fits, passed_on}
use Rattle.plain_maps.proofs.number_list.pass_on.Goals as goal

pub pop_back-last-requires : goal.pop_back-last-requires
pop_back-last-requires c =
    let bs = c.args.blocks.now.items in
    let within = over_within c.args.len bs c.args.here c.requires.over in
    rw (block_read bs c.args.here c.index_mut.result.now within c.index_mut.ensures.value)
    (omega (arith, over_long c.args.len bs c.args.here c.requires.over c.requires.more))

pub push_front-requires : goal.push_front-requires
push_front-requires c =
    let bs = c.args.blocks.now.items in
    let next : c.args.here + 1 < length bs = omega (arith, c.requires.more, c.requires.room) in
    rw (block_read_after bs (c.args.here + 1) c.args.here c.pop_back-last.new.self c.index_mut-2.result.now next c.index_mut-2.ensures.value)
    (after_fits c.args.len bs c.args.here c.pop_back-last.new.self c.requires.over c.requires.more c.requires.room)

pub returns-clause-over : goal.returns-clause-over
returns-clause-over c =
    let bs = c.args.blocks.now.items in
    let within = over_within c.args.len bs c.args.here c.requires.over in
    let next : c.args.here + 1 < length bs = omega (arith, c.requires.more, c.requires.room) in
    let block = block_read bs c.args.here c.index_mut.result.now within c.index_mut.ensures.value in
    let after = block_read_after bs (c.args.here + 1) c.args.here c.pop_back-last.new.self c.index_mut-2.result.now next c.index_mut-2.ensures.value in
    rw (c.push_front.ensures, after)
    (passed_on c.args.len bs c.args.here c.pop_back-last.result c.pop_back-last.new.self c.requires.over c.requires.more c.requires.room (sym block ∙ c.pop_back-last.ensures)).0

pub returns-clause-joined : goal.returns-clause-joined
returns-clause-joined c =
    let bs = c.args.blocks.now.items in
    let within = over_within c.args.len bs c.args.here c.requires.over in
    let next : c.args.here + 1 < length bs = omega (arith, c.requires.more, c.requires.room) in
    let block = block_read bs c.args.here c.index_mut.result.now within c.index_mut.ensures.value in
    let after = block_read_after bs (c.args.here + 1) c.args.here c.pop_back-last.new.self c.index_mut-2.result.now next c.index_mut-2.ensures.value in
    rw (c.push_front.ensures, after)
    (passed_on c.args.len bs c.args.here c.pop_back-last.result c.pop_back-last.new.self c.requires.over c.requires.more c.requires.room (sym block ∙ c.pop_back-last.ensures)).1
