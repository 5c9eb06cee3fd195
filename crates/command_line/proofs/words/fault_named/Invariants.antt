use Rattle.std.proofs.Common.{◌<◌, ℕ}
use Rattle.command_line.specs.Reading.{IsName}
use Rattle.command_line.proofs.words.fault_named.Given as goal

-- no number before the next one is that of a fault of this name
abbrev pub invariant-numbers : goal.invariant-numbers
invariant-numbers l = (lower : ℕ) → lower < l.number → ¬ IsName l.word lower
