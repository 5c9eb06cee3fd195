use Rattle.steered_replays.proofs.StandingRuns as standing
use Rattle.steered_replays.proofs.laws.fates_stand_in_journals.Goals as goal

pub returns : goal.returns
returns c = standing.fates_stand
