use Rattle.shard_port.proofs.PlainLaws as lemmas
use Rattle.shard_port.proofs.laws.journals_after_a_refusal.Goals as goal

pub returns : goal.returns
returns c = lemmas.writes_refused_sessions
