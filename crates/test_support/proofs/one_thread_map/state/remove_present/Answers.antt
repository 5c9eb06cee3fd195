use Rattle.std.proofs.Common.{rules, ◌==◌, not}
use Rattle.std.proofs.lemmas.Fn.{filter_same}
use Rattle.semantics.specs.declared.plan.PresentKey.{PresentKey}
use Rattle.test_support.proofs.one_thread_map.state.remove_present.Goals as goal

pub returns-clause-others : goal.returns-clause-others
returns-clause-others c = filter_same _ (λ (one : PresentKey). not (one.cell == c.args.cell)) _ (λ x b q k. (search rules, search rules)) _ _ c.retain.ensures.filtered
