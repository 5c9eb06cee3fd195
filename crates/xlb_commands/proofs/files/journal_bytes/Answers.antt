use Rattle.std.proofs.Common.{ap}
use Rattle.command_line.specs.Reading.{text_of}
use Rattle.xlb_commands.proofs.files.journal_bytes.Goals as goal

pub bytes_of_journals-requires : goal.bytes_of_journals-requires
bytes_of_journals-requires c = c.requires c.in-Some.name.now (ap text_of c.in-Some.is)
