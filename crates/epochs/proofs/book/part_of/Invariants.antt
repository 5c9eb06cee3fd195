use Rattle.std.proofs.Common.{◌≡◌, ℕ, ◌<◌}
use Rattle.epochs.specs.EpochCounts.{part_at, runs_of}
use Rattle.epochs.proofs.book.part_of.Given as goal

abbrev pub invariant-loop-at : goal.invariant-loop-at
invariant-loop-at l = (k : ℕ) → k < l.at → runs_of l.epoch (part_at l.parts k) ≡ 0
