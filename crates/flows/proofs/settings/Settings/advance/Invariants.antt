use Rattle.std.proofs.Common.{◌≡◌, ◌-◌, length}
use Rattle.flows.specs.Walking.{IsWalked}
use Rattle.flows.proofs.settings.Settings.advance.Given as goal

abbrev pub invariant-commands : goal.invariant-commands
invariant-commands l = IsWalked l.self l.place × (l.self.commands.now ≡ l.fn.self.commands.now)

abbrev pub decreases-commands : goal.decreases-commands
decreases-commands l = length l.self.commands.now - l.self.done
