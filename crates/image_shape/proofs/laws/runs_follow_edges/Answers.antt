use Rattle.image_shape.proofs.shared.RunLemmas as runs
use Rattle.image_shape.proofs.laws.runs_follow_edges.Goals as goal

pub returns : goal.returns
returns c = runs.runs_follow_edges
