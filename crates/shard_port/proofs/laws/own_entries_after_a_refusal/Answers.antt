use Rattle.shard_port.proofs.PassSessionLemmas as lemmas
use Rattle.shard_port.proofs.laws.own_entries_after_a_refusal.Goals as goal

pub returns : goal.returns
returns c = lemmas.writes_refused_own_sessions
