use Rattle.replay.proofs.TurnAccounts as lemmas
use Rattle.replay.proofs.laws.turns_are_accounted.Goals as goal

pub returns : goal.returns
returns c = lemmas.turns_are_accounted c.own_entries_are_sessions.ensures c.own_entries_after_a_refusal.ensures
