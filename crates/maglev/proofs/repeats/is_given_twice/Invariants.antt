use Rattle.std.proofs.Common.{ℕ}
use Rattle.maglev.proofs.RepeatLemmas.{NoneBelow}
use Rattle.maglev.proofs.repeats.is_given_twice.Given as goal

abbrev pub invariant-given : goal.invariant-given
invariant-given l = NoneBelow (λ (given : ℕ × ℕ × ℕ). given.0) l.given l.later
