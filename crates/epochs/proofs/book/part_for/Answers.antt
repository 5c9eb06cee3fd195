use Rattle.std.proofs.Common.{arith}
use Rattle.epochs.proofs.Counting.{runs_of_all}
use Rattle.epochs.proofs.book.part_for.Goals as goal

pub unreachable-requires : goal.unreachable-requires
unreachable-requires c =
    let all = runs_of_all c.args.parts.now (λ k lt. c.loop-at.invariant k (omega (arith, c.loop-at-test.false, lt))) in
    omega (arith, all, c.requires)
