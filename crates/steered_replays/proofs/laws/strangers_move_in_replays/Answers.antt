use Rattle.steered_replays.proofs.MovingStrangers as moving
use Rattle.steered_replays.proofs.laws.strangers_move_in_replays.Goals as goal

pub returns : goal.returns
returns c = moving.strangers_move_in_replays c.tables_follow.ensures.moments c.strangers_move.ensures
