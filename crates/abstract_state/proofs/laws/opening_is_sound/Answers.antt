use Rattle.abstract_state.proofs.shared.Opening.{opening_sound}
use Rattle.abstract_state.proofs.laws.opening_is_sound.Goals as goal

pub returns : goal.returns
returns c = opening_sound
