use Rattle.std.proofs.Common.{take}
use Rattle.std.specs.List.{AllByRecursion}
use Rattle.xlb_commands.specs.Replays.{IsInTime}
use Rattle.xlb_commands.proofs.left_out.is_any_late.Given as goal

abbrev pub invariant-commands : goal.invariant-commands
invariant-commands l = AllByRecursion (IsInTime l.records) (take l.command-index l.script)
