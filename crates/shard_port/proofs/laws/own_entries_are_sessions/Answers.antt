use Rattle.shard_port.proofs.PassSessionLemmas as lemmas
use Rattle.shard_port.proofs.laws.own_entries_are_sessions.Goals as goal

pub returns : goal.returns
returns c = lemmas.writes_own_sessions
