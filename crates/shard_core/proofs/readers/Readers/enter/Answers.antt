use Rattle.std.proofs.Common.{rules}
use Rattle.shard_core.proofs.ReaderLemmas.{room_for_one}
use Rattle.shard_core.proofs.readers.Readers.enter.Goals as goal

pub enter-epoch-requires : goal.enter-epoch-requires
enter-epoch-requires c =
    let inside = c.self.inside in
    room_for_one inside.book inside.epochs inside.count c.args.worker c.self.invariant (search rules) (search rules) (rw (← c.self.view_is) at c.requires.outside)
