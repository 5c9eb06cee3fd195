use Rattle.std.specs.Prelude.{take}
use Rattle.command_line.specs.Commanded.{AreLeftByCommands}
use Rattle.command_line.proofs.commanded.first_of_commands.Given as goal

abbrev pub invariant-updates : goal.invariant-updates
invariant-updates l = AreLeftByCommands (take l.place l.updates)
