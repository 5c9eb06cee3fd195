use Rattle.steered_replays.proofs.ServiceLemmas.{are_services, services_left}
use Rattle.steered_replays.proofs.laws.services_follow.Goals as goal

pub returns-clause-moments : goal.returns-clause-moments
returns-clause-moments c = λ notes size is script options records outcome plain commands histories moment.
    are_services notes size is script options records outcome plain
    (c.replays_are_steered.ensures notes size is script options records outcome plain.fit plain.captured plain.accounted) commands histories moment

pub returns-clause-end : goal.returns-clause-end
returns-clause-end c = λ notes size is script options records outcome plain.
    services_left notes size is script options records outcome plain
    (c.replays_are_steered.ensures notes size is script options records outcome plain.fit plain.captured plain.accounted)
