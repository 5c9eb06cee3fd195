use Rattle.epochs.specs.EpochCounts.{IsFloor}
use Rattle.epochs.proofs.book.lowest.Given as goal

abbrev pub invariant-loop-part : goal.invariant-loop-part
invariant-loop-part l = IsFloor l.present l.parts l.part-index l.floor
