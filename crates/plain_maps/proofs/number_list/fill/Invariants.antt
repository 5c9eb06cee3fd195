use Rattle.std.proofs.Common.{◌≡◌, length}
use Rattle.plain_maps.specs.NumberBlocks.{joined, Under}
use Rattle.plain_maps.proofs.number_list.fill.Given as goal

abbrev pub invariant-blocks-2 : goal.invariant-blocks-2
invariant-blocks-2 l = record {
  under : Under l.here l.len l.blocks.items;
  same : joined l.blocks.items ≡ joined l.fn.blocks.items;
  count : length l.blocks.items ≡ length l.fn.blocks.items;
}
