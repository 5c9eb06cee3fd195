use Rattle.traffic.proofs.DownLemmas as down
use Rattle.traffic.proofs.laws.downs_are_counted.Goals as goal

pub returns : goal.returns
returns c = down.downs_are_counted
