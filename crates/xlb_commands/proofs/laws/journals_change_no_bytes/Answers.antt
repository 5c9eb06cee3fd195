use Rattle.xlb_commands.proofs.SameFiles.{journals_change_no_bytes}
use Rattle.xlb_commands.proofs.laws.journals_change_no_bytes.Goals as goal

pub returns : goal.returns
returns c = journals_change_no_bytes c.journals_change_nothing.ensures
