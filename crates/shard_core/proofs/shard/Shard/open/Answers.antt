use Rattle.shard_core.proofs.OpeningLemmas.{shard_opened}
use Rattle.shard_core.proofs.shard.Shard.open.Goals as goal

pub invariant_of-result : goal.invariant_of-result
invariant_of-result c =
    rw c.new.ensures (shard_opened c.args.plan c.in_ok-journal.journal c.in_ok-cells.cells c.in_ok-keys.keys c.requires c.in_ok-journal.ensures c.in_ok-cells.ensures c.in_ok-keys.ensures.fits c.in_ok-keys.ensures.none)
