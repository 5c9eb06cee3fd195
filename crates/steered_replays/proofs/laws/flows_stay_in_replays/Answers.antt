use Rattle.steered_replays.proofs.StickyReplays.{flows_stay}
use Rattle.steered_replays.proofs.laws.flows_stay_in_replays.Goals as goal

pub returns : goal.returns
returns c = flows_stay c.noted_flows_stick.ensures.stick
