use Rattle.std.proofs.Common.{rules}
use Rattle.faults.proofs.PlaceLemmas.{told}
use Rattle.faults.proofs.refusal.refusal_text.Goals as goal

pub returns-clause-form : goal.returns-clause-form
returns-clause-form c = told _ _ _ (search rules)
