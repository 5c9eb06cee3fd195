use Rattle.steered_replays.proofs.FleetLemmas as fleet
use Rattle.steered_replays.proofs.laws.strangers_move.Goals as goal

pub returns : goal.returns
returns c = fleet.strangers_move
