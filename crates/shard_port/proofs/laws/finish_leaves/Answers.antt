use Rattle.shard_port.proofs.SessionLemmas as lemmas
use Rattle.shard_port.proofs.laws.finish_leaves.Goals as goal

pub returns : goal.returns
returns c = lemmas.outside_all
