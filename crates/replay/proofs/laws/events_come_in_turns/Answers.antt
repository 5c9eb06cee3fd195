use Rattle.replay.proofs.TurnAccounts as lemmas
use Rattle.replay.proofs.laws.events_come_in_turns.Goals as goal

pub returns : goal.returns
returns c =
    lemmas.events_come_in_turns c.own_entries_are_sessions.ensures c.own_entries_after_a_refusal.ensures c.args.verified.now
    c.replays_in_turns_are_listed.ensures
