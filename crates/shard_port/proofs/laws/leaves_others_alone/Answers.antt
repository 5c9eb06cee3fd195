use Rattle.shard_port.proofs.PlainLaws as lemmas
use Rattle.shard_port.proofs.laws.leaves_others_alone.Goals as goal

pub returns : goal.returns
returns c = lemmas.leaves_others
