use Rattle.std.proofs.Common.{◌*◌, ◌<◌, ◌≤◌, length, rules, arith}
use Rattle.plain_maps.specs.NumberBlocks.{block_size, joined}
use Rattle.plain_maps.proofs.BlockLemmas.{joined_length}
use Rattle.plain_maps.proofs.number_list.NumberList.insert.Goals as goal

pub put-requires-clause-place : goal.put-requires-clause-place
put-requires-clause-place c =
    let le : c.args.at ≤ length (joined c.self.inside.blocks.items) = rw (← c.self.view_is) at c.requires.place in
    omega (arith, le, joined_length c.self.inside.len c.self.inside.blocks.items c.self.invariant.shaped)

pub put-requires-clause-room : goal.put-requires-clause-room
put-requires-clause-room c =
    let lt : length (joined c.self.inside.blocks.items) < length c.self.inside.blocks.items * block_size = rw (← c.self.view_is) at c.requires.room in
    omega (arith, lt, joined_length c.self.inside.len c.self.inside.blocks.items c.self.invariant.shaped)

pub settle-requires-clause-room : goal.settle-requires-clause-room
settle-requires-clause-room c =
    let lt : length (joined c.self.inside.blocks.items) < length c.self.inside.blocks.items * block_size = rw (← c.self.view_is) at c.requires.room in
    omega (arith, lt, joined_length c.self.inside.len c.self.inside.blocks.items c.self.invariant.shaped, c.put.ensures.count)

pub overflow_add-self : goal.overflow_add-self
overflow_add-self c =
    let lt : length (joined c.self.inside.blocks.items) < length c.self.inside.blocks.items * block_size = rw (← c.self.view_is) at c.requires.room in
    let small : c.self.inside.len < 4294967296 * block_size =
    omega (arith, lt, joined_length c.self.inside.len c.self.inside.blocks.items c.self.invariant.shaped, c.self.invariant.few) in
    search (rules, small)
