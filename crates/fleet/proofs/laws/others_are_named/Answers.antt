use Rattle.fleet.proofs.LossLemmas.{named}
use Rattle.fleet.proofs.laws.others_are_named.Goals as goal

pub returns : goal.returns
returns c = named
