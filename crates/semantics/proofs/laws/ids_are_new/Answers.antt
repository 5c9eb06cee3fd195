use Rattle.semantics.proofs.shared.LawLemmas.{history_grows, next_cell}
use Rattle.semantics.proofs.laws.ids_are_new.Goals as goal

pub returns-clause-stay : goal.returns-clause-stay
returns-clause-stay c = history_grows

pub returns-clause-next : goal.returns-clause-next
returns-clause-next c = next_cell
