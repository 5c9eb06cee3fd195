use Rattle.steered_replays.proofs.TotalLemmas as total
use Rattle.steered_replays.proofs.laws.totals_are_exact.Goals as goal

pub returns : goal.returns
returns c = λ notes size is script options records outcome fit captured accounted none_set none.
    total.are_totals c.counts_are_exact.ensures.counts c.counts_are_exact.ensures.lookups notes size script options records outcome fit
    accounted (c.replays_are_steered.ensures notes size is script options records outcome fit captured accounted) none_set none
