use Rattle.steered_replays.proofs.TableLemmas.{are_tables, are_left}
use Rattle.steered_replays.proofs.laws.tables_follow.Goals as goal

pub returns-clause-moments : goal.returns-clause-moments
returns-clause-moments c = λ notes size is script options records outcome plain commands histories moment.
    are_tables notes size is script options records outcome plain
    (c.replays_are_steered.ensures notes size is script options records outcome plain.fit plain.captured plain.accounted) commands histories moment

pub returns-clause-end : goal.returns-clause-end
returns-clause-end c = λ notes size is script options records outcome plain.
    are_left notes size is script options records outcome plain
    (c.replays_are_steered.ensures notes size is script options records outcome plain.fit plain.captured plain.accounted)
