use Rattle.image_shape.proofs.shared.LawLemmas as laws
use Rattle.image_shape.proofs.laws.edges_go_up.Goals as goal

pub returns : goal.returns
returns c = laws.edges_go_up
