use Rattle.std.proofs.Common.{rules}
use Rattle.std.specs.Prelude.{is_some}
use Rattle.std.proofs.lemmas.Fn.{filter_same}
use Rattle.actors.specs.declared.outcome.Applied.{Applied}
use Rattle.replay.proofs.closing.refused.Goals as goal

pub returns : goal.returns
returns c = filter_same _ (λ (one : Applied). is_some one.fault) _ (λ x b q k. (search rules, search rules)) _ _ c.retain.ensures.filtered
