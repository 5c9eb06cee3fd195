use Rattle.std.proofs.Common.{◌≡◌, length}
use Rattle.plain_maps.specs.NumberBlocks.{joined, Over}
use Rattle.plain_maps.proofs.number_list.settle.Given as goal

abbrev pub invariant-blocks-2 : goal.invariant-blocks-2
invariant-blocks-2 l = record {
  over : Over l.here l.len l.blocks.items;
  same : joined l.blocks.items ≡ joined l.fn.blocks.items;
  count : length l.blocks.items ≡ length l.fn.blocks.items;
}
