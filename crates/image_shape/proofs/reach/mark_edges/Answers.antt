use Rattle.std.proofs.Common.{inl, inr}
use Rattle.image_shape.proofs.reach.mark_edges.Goals as goal

pub mark_next-requires-clause-targets : goal.mark_next-requires-clause-targets
mark_next-requires-clause-targets c target fall = c.requires.targets target (inl fall)

pub mark_target-requires-clause-targets : goal.mark_target-requires-clause-targets
mark_target-requires-clause-targets c target jump = c.requires.targets target (inr jump)
