use Rattle.semantics.proofs.shared.CallerLemmas as callers
use Rattle.semantics.proofs.laws.condition_is_own.Goals as goal

pub returns : goal.returns
returns c = callers.condition_is_own
