use Rattle.steered_replays.proofs.SteeredLemmas as steered
use Rattle.steered_replays.proofs.laws.replays_are_steered.Goals as goal

pub returns : goal.returns
returns c = steered.replays_are_steered c.steers.ensures.plan c.steers.ensures.results
