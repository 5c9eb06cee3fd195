use Rattle.abstract_state.proofs.shared.Writing.{held_more}
use Rattle.abstract_state.proofs.laws.holding_more_is_sound.Goals as goal

pub returns : goal.returns
returns c = held_more
