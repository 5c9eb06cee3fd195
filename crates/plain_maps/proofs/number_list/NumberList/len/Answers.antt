use Rattle.std.proofs.Common.{sym}
use Rattle.plain_maps.proofs.BlockLemmas.{joined_length}
use Rattle.plain_maps.proofs.number_list.NumberList.len.Goals as goal

pub returns : goal.returns
returns c = rw (← c.self.view_is) (sym (joined_length c.self.inside.len c.self.inside.blocks.items c.self.invariant.shaped))
