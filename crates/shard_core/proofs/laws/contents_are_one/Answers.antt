use Rattle.shard_core.proofs.shared.Ordered as lemmas
use Rattle.shard_core.proofs.laws.contents_are_one.Goals as goal

pub returns : goal.returns
returns c = lemmas.contents_are_one
