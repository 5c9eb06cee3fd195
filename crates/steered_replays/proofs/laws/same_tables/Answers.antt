use Rattle.steered_replays.proofs.FleetLemmas as fleet
use Rattle.steered_replays.proofs.laws.same_tables.Goals as goal

pub returns : goal.returns
returns c = fleet.same_tables
