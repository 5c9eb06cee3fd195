use Rattle.steered_replays.proofs.StrangerRow as row
use Rattle.steered_replays.proofs.laws.a_stranger_goes_to_its_owner.Goals as goal

pub returns : goal.returns
returns c = row.stranger_row c.finished_runs_are_results.ensures
