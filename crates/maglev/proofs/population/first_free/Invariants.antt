use Rattle.maglev.proofs.Searching.{IsReached}
use Rattle.maglev.proofs.population.first_free.Given as goal

abbrev pub invariant-choices : goal.invariant-choices
invariant-choices l = IsReached l.size l.preference l.table.items 4294967295 l._choice l.slot
