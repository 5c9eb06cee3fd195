use Rattle.abstract_state.proofs.shared.JoinStates.{join_sound}
use Rattle.abstract_state.proofs.laws.join_is_sound.Goals as goal

pub returns : goal.returns
returns c = join_sound
