use Rattle.std.proofs.Common.{take, fold, []}
use Rattle.xlb_commands.specs.RecordReports.{HasNamed, named_in}
use Rattle.xlb_commands.proofs.record_report.backends_in.Given as goal

abbrev pub invariant-commands : goal.invariant-commands
invariant-commands l = HasNamed l.table (fold named_in [] (take l.command-index l.script))
