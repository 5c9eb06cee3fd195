use Rattle.steered_replays.proofs.SteeredLemmas as steered
use Rattle.steered_replays.proofs.laws.runs_are_steered.Goals as goal

pub returns-clause-ended : goal.returns-clause-ended
returns-clause-ended c = steered.runs_are_steered c.steers.ensures.plan c.steers.ensures.results

pub returns-clause-refused : goal.returns-clause-refused
returns-clause-refused c = steered.refused_runs_are_steered c.steers.ensures.plan
