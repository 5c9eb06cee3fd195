use Rattle.steered_replays.proofs.MomentLemmas as moment
use Rattle.steered_replays.proofs.StrangerRuns as stranger
use Rattle.steered_replays.proofs.laws.strangers_go_to_owners.Goals as goal

pub returns-clause-runs : goal.returns-clause-runs
returns-clause-runs c = stranger.strangers_are_sent c.tables_follow.ensures.moments c.strangers_agree.ensures.owners

pub returns-clause-moved : goal.returns-clause-moved
returns-clause-moved c = stranger.strangers_move_between_runs

pub returns-clause-anywhere : goal.returns-clause-anywhere
returns-clause-anywhere c = moment.moments_lie_anywhere
