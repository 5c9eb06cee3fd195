use Rattle.steered_replays.proofs.CountLemmas as count
use Rattle.steered_replays.proofs.laws.counts_are_exact.Goals as goal

pub returns-clause-counts : goal.returns-clause-counts
returns-clause-counts c = count.counts_are_exact

pub returns-clause-lookups : goal.returns-clause-lookups
returns-clause-lookups c = count.lookups_find
