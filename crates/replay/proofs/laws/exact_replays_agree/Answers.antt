use Rattle.replay.proofs.OneReplay.{replays_agree}
use Rattle.replay.proofs.laws.exact_replays_agree.Goals as goal

pub returns : goal.returns
returns c = replays_agree
