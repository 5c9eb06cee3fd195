use Rattle.std.proofs.Common.{ℕ, ◌<◌}
use Rattle.epochs.specs.EpochCounts.{part_at}
use Rattle.epochs.proofs.book.part_for.Given as goal

abbrev pub invariant-loop-at : goal.invariant-loop-at
invariant-loop-at l = (k : ℕ) → k < l.at → 0 < (part_at l.parts k).runs
