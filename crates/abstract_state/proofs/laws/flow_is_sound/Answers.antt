use Rattle.abstract_state.proofs.shared.FlowLaw.{flow_sound}
use Rattle.abstract_state.proofs.laws.flow_is_sound.Goals as goal

pub returns : goal.returns
returns c = flow_sound
