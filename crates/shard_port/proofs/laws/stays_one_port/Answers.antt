use Rattle.shard_port.proofs.PlainLaws as lemmas
use Rattle.shard_port.proofs.laws.stays_one_port.Goals as goal

pub returns : goal.returns
returns c = lemmas.stays_one_port
