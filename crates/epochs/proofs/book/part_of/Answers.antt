use Rattle.std.proofs.Common.{arith}
use Rattle.epochs.proofs.Counting.{runs_of_none}
use Rattle.epochs.proofs.book.part_of.Goals as goal

pub unreachable-requires : goal.unreachable-requires
unreachable-requires c =
    let none = runs_of_none c.args.epoch c.args.parts.now (λ k lt. c.loop-at.invariant k (omega (arith, c.loop-at-test.false, lt))) in
    omega (arith, none, c.requires)
