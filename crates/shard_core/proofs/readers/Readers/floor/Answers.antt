use Rattle.shard_core.proofs.ReaderLemmas.{floor_counts}
use Rattle.shard_core.proofs.readers.Readers.floor.Goals as goal

pub returns : goal.returns
returns c stamp given =
    let inside = c.self.inside in
    rw (← c.self.view_is) (floor_counts inside.book inside.epochs inside.count stamp c.floor.result c.self.invariant (c.floor.ensures.exact stamp (rw (← c.self.view_is) at given)))
