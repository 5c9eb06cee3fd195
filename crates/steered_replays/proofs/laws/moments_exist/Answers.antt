use Rattle.steered_replays.proofs.MomentLemmas as moments
use Rattle.steered_replays.proofs.laws.moments_exist.Goals as goal

pub returns : goal.returns
returns c = moments.moments_exist
