use Rattle.std.proofs.Common.{◌∙◌, map}
use Rattle.comparison.proofs.CountLemmas.{next_counts}
use Rattle.comparison.proofs.kinds.table_of.Goals as goal

pub places-preserved : goal.places-preserved
places-preserved c =
    next_counts (map (λ row. row.now) c.args.first.now) (map (λ row. row.now) c.args.second.now) c.args.places.now c.places.counts
    c.add.new.counts c.places.place-index _ c.as_str.result.now c.places-test.true (c.as_str.ensures.value ∙ c.in_ok-change.ensures)
    c.in_ok-add.ensures c.places.invariant
