use Rattle.std.proofs.Common.{◌≡◌, replicate}
use Rattle.map_rules.proofs.opening.zeros.Given as goal

abbrev pub invariant-loop : goal.invariant-loop
invariant-loop l = l.value ≡ replicate l.counter 0
