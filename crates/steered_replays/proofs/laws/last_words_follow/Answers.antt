use Rattle.steered_replays.proofs.WordTables.{last_words_follow}
use Rattle.steered_replays.proofs.laws.last_words_follow.Goals as goal

pub returns : goal.returns
returns c = last_words_follow c.replays_are_steered.ensures
