use Rattle.semantics.proofs.shared.HoldingLemmas.{held_stays}
use Rattle.semantics.proofs.shared.KeptLemmas.{held_is_kept_of_plan}
use Rattle.semantics.proofs.laws.held_cell_stays.Goals as goal

pub returns-clause-stays : goal.returns-clause-stays
returns-clause-stays c = held_stays

pub returns-clause-kept : goal.returns-clause-kept
returns-clause-kept c = held_is_kept_of_plan
