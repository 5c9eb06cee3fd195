use Rattle.std.proofs.Common.{refl, []}
use Rattle.xlb_commands.proofs.replays.no_commands.Goals as goal

pub returns-clause-refused : goal.returns-clause-refused
returns-clause-refused c = c.parsed.ensures.accepts [] (record { fit = tt; never_falls = tt; spelled = refl })
