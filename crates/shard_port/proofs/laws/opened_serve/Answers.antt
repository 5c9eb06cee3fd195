use Rattle.shard_port.proofs.PlainLaws as lemmas
use Rattle.shard_port.proofs.laws.opened_serve.Goals as goal

pub returns : goal.returns
returns c = lemmas.opened_serve
