use Rattle.shard_port.proofs.PlainLaws as lemmas
use Rattle.shard_port.proofs.laws.calls_keep_serving.Goals as goal

pub returns : goal.returns
returns c = lemmas.calls_keep_serving
