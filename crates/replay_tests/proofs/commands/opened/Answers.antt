use Rattle.std.proofs.Common.{rules}
use Rattle.conntrack.proofs.shared.MapLemmas.{are_steering}
use Rattle.replay_tests.proofs.commands.opened.Goals as goal

pub returns : goal.returns
returns c = are_steering _ _ (search rules)
