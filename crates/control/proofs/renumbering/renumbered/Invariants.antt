use Rattle.std.proofs.Common.{◌≡◌, take}
use Rattle.std.specs.List.{AllByRecursion}
use Rattle.control.specs.ScriptText.{CommandFits}
use Rattle.control.specs.Renumbering.{at_frames}
use Rattle.control.proofs.renumbering.renumbered.Given as goal

abbrev pub invariant-commands : goal.invariant-commands
invariant-commands l = (l.made.items ≡ at_frames (take l.place l.frames) (take l.place l.commands)) × AllByRecursion CommandFits l.made.items
