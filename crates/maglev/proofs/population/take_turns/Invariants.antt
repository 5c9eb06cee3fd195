use Rattle.maglev.specs.Turns.{AreTurnsTaken}
use Rattle.maglev.proofs.population.take_turns.Given as goal

abbrev pub invariant-turns : goal.invariant-turns
invariant-turns l = AreTurnsTaken l.size 4294967295 l.fn.backends.items l.turn l.table.items l.backends.items
