use Rattle.std.proofs.Common.{◌≡◌}
use Rattle.actors.specs.Actors.{numbers_from}
use Rattle.actors.specs.Parts.{numbers_of}
use Rattle.replay.proofs.setting.apply_first.Given as goal

pub record Begun (g : goal.Over) (l : goal.Live-commands g) : Type 0 where
  pub applied : numbers_of l.commander.noted ≡ numbers_from 0 l.number
  pub script : l.commander.script ≡ l.fn.commander.script
  pub maps : l.commander.port.maps ≡ l.fn.commander.port.maps
  pub options : l.commander.port.options ≡ l.fn.commander.port.options
  pub size : l.commander.controller.size ≡ l.fn.commander.controller.size
  pub updates : l.commander.updates ≡ l.fn.commander.updates

abbrev pub invariant-commands : goal.invariant-commands
invariant-commands g l = Begun g l
