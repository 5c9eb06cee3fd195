use Rattle.semantics.proofs.SystemLemmas.{histories_are_legal}
use Rattle.semantics.proofs.laws.reached_histories_are_legal.Goals as goal

pub returns : goal.returns
returns c = histories_are_legal
