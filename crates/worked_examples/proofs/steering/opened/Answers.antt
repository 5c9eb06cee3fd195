use Rattle.std.proofs.Common.{rules}
use Rattle.conntrack.proofs.shared.MapLemmas.{are_steering}
use Rattle.worked_examples.proofs.steering.opened.Goals as goal

pub returns : goal.returns
returns g c = are_steering _ _ (search rules)
