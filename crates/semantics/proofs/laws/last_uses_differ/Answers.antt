use Rattle.semantics.proofs.shared.UseLemmas.{were_used, keys_differ, uses_differ}
use Rattle.semantics.proofs.laws.last_uses_differ.Goals as goal

pub returns-clause-used : goal.returns-clause-used
returns-clause-used c = were_used

pub returns-clause-keys : goal.returns-clause-keys
returns-clause-keys c = keys_differ

pub returns-clause-uses : goal.returns-clause-uses
returns-clause-uses c = uses_differ
