use Rattle.std.proofs.Common.{rules, not, reverse}
use Rattle.std.proofs.lemmas.Fn.{filter_same}
use Rattle.semantics.specs.declared.plan.RetiredCell.{RetiredCell}
use Rattle.semantics.specs.Reclamation.{is_reclaimable}
use Rattle.test_support.proofs.one_thread_map.state.remove_reclaimable.Goals as goal

pub returns : goal.returns
returns c = filter_same _ (λ (one : RetiredCell). not (is_reclaimable (reverse c.args.journal.now) one)) _ (λ x b q k. (search rules, search rules)) _ _ c.retain.ensures.filtered
