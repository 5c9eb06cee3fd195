use Rattle.std.proofs.Common.{◌≡◌, [], replicate}
use Rattle.plain_maps.proofs.number_list.NumberList.new.Given as goal

abbrev pub invariant-blocks-2 : goal.invariant-blocks-2
invariant-blocks-2 l = l.blocks.items ≡ replicate l.counter []
