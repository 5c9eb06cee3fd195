use Rattle.semantics.proofs.shared.IdLemmas.{ids_count, ids_are_few}
use Rattle.semantics.proofs.laws.ids_count_creations.Goals as goal

pub returns-clause-count : goal.returns-clause-count
returns-clause-count c = ids_count

pub returns-clause-few : goal.returns-clause-few
returns-clause-few c = ids_are_few
