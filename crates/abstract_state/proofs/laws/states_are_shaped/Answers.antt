use Rattle.abstract_state.proofs.shared.Shapes.{states_shaped}
use Rattle.abstract_state.proofs.laws.states_are_shaped.Goals as goal

pub returns : goal.returns
returns c = states_shaped
