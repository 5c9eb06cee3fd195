use Rattle.std.proofs.Common.{refl}
use Rattle.xlb_commands.specs.Refused.{no_journal_room}
use Rattle.xlb_commands.proofs.files.bytes_of_journals.Goals as goal

pub returns-in-Err-clause-refused : goal.returns-in-Err-clause-refused
returns-in-Err-clause-refused c = no_journal_room c.args.name.now refl c.from.ensures
