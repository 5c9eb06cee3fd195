use Rattle.xlb_commands.proofs.AcceptedJournals.{audits_accept}
use Rattle.xlb_commands.proofs.laws.audits_accept.Goals as goal

pub returns : goal.returns
returns g c = audits_accept _
