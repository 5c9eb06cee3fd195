use Rattle.std.proofs.Common.{◌∙◌, ◌+◌, ap}
use Rattle.map_cells.specs.CellTable.{with_new_cell}
use Rattle.shard_core.proofs.ContentLemmas.{one_more_filled}
use Rattle.shard_core.proofs.contents.array_cells.Goals as goal

pub loop-preserved : goal.loop-preserved
loop-preserved c =
    c.take.ensures.table ∙ ap (λ table. with_new_cell table c.args.value.now) c.loop.invariant
    ∙ one_more_filled c.args.value.now c.args.count (c.args.count + c.args.reserve) c.loop.counter
