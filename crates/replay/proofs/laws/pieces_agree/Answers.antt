use Rattle.replay.proofs.OneReplay as lemmas
use Rattle.replay.proofs.laws.pieces_agree.Goals as goal

pub returns : goal.returns
returns c = lemmas.pieces_agree
