use Rattle.steered_replays.proofs.FleetLemmas as fleet
use Rattle.steered_replays.proofs.laws.strangers_agree.Goals as goal

pub returns-clause-owners : goal.returns-clause-owners
returns-clause-owners c = fleet.owners_are_sent_to

pub returns-clause-some : goal.returns-clause-some
returns-clause-some c = fleet.some_are_sent_to

pub returns-clause-agree : goal.returns-clause-agree
returns-clause-agree c = fleet.strangers_agree

pub returns-clause-frames : goal.returns-clause-frames
returns-clause-frames c = fleet.frames_are_sent
