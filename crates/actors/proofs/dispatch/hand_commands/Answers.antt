use Rattle.actors.proofs.shared.HandLemmas.{none_handed, one_handed}
use Rattle.actors.proofs.dispatch.hand_commands.Goals as goal

pub commands-init : goal.commands-init
commands-init g c = (c.requires.pass, none_handed _ _ _)

pub commands-preserved : goal.commands-preserved
commands-preserved g c = (
  c.put_waiting.ensures.pass,
  one_handed _ _ _ _ _ _ c.commands.invariant.1 c.put_waiting.ensures.put,
)
