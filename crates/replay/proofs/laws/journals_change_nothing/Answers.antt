use Rattle.replay.proofs.OtherReplays as lemmas
use Rattle.replay.proofs.laws.journals_change_nothing.Goals as goal

pub returns : goal.returns
returns c = lemmas.journals_change_nothing
