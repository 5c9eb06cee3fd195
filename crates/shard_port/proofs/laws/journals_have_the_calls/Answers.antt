use Rattle.shard_port.proofs.PlainLaws as lemmas
use Rattle.shard_port.proofs.laws.journals_have_the_calls.Goals as goal

pub returns : goal.returns
returns c = lemmas.writes_sessions
