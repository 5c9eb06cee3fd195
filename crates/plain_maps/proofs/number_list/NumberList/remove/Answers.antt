use Rattle.std.proofs.Common.{◌<◌, length, arith}
use Rattle.plain_maps.specs.NumberBlocks.{joined}
use Rattle.plain_maps.proofs.BlockLemmas.{joined_length}
use Rattle.plain_maps.proofs.number_list.NumberList.remove.Goals as goal

pub take-number-requires-clause-place : goal.take-number-requires-clause-place
take-number-requires-clause-place c =
    let lt : c.args.at < length (joined c.self.inside.blocks.items) = rw (← c.self.view_is) at c.requires in
    omega (arith, lt, joined_length c.self.inside.len c.self.inside.blocks.items c.self.invariant.shaped)

pub fill-requires-clause-some : goal.fill-requires-clause-some
fill-requires-clause-some c =
    let lt : c.args.at < length (joined c.self.inside.blocks.items) = rw (← c.self.view_is) at c.requires in
    omega (arith, lt, joined_length c.self.inside.len c.self.inside.blocks.items c.self.invariant.shaped)

pub overflow_sub-self : goal.overflow_sub-self
overflow_sub-self c =
    let lt : c.args.at < length (joined c.self.inside.blocks.items) = rw (← c.self.view_is) at c.requires in
    omega (arith, lt, joined_length c.self.inside.len c.self.inside.blocks.items c.self.invariant.shaped)
