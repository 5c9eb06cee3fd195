use Rattle.replay.proofs.LaterTurns.{turns_come_in_order}
use Rattle.replay.proofs.laws.turns_come_in_order.Goals as goal

pub returns : goal.returns
returns c = turns_come_in_order
