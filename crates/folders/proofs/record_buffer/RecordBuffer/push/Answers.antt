use Rattle.std.proofs.Common.{◌∙◌, ◌++◌, ℕ, List, ap, refl}
use Rattle.folders.proofs.RecordFronts.{one_more}
use Rattle.folders.proofs.record_buffer.RecordBuffer.push.Goals as goal

pub returns-clause-added : goal.returns-clause-added
returns-clause-added c = (
  _,
  one_more _ _ _ _ c.self.view_is c.in_ok-push.ensures.items,
  refl,
  refl,
  c.in_ok-extend_from_slice.ensures.items ∙ ap (λ (them : List ℕ). them ++ c.args.frame.now) c.clear.ensures.items,
)
