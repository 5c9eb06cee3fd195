use Rattle.steered_replays.proofs.StickyRow as row
use Rattle.steered_replays.proofs.laws.a_noted_flow_sticks.Goals as goal

pub returns : goal.returns
returns c = row.sticky_row c.finished_runs_are_results.ensures
