use Rattle.std.proofs.Common.{refl}
use Rattle.xlb_commands.proofs.serving.CommandAnswer.noted.Goals as goal

pub returns : goal.returns
returns c = (_, refl, refl, refl)
