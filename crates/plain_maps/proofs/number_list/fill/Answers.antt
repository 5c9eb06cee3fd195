use Rattle.std.proofs.Common.{rules}
use Rattle.plain_maps.proofs.BlockLemmas.{filled}
use Rattle.plain_maps.proofs.number_list.fill.Goals as goal

pub returns-clause-shaped : goal.returns-clause-shaped
returns-clause-shaped c = filled c.args.len c.blocks-2.blocks.items c.blocks-2.here c.blocks-2.invariant.under (search rules)
