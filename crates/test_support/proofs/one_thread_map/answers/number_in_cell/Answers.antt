use Rattle.std.proofs.Common.{◌≤◌, ◌^◌, length, arith, lit<}
use Rattle.std.proofs.Math.Nat.{pow-le-pow_right}
use Rattle.test_support.proofs.one_thread_map.answers.number_in_cell.Goals as goal

pub returns-clause-below : goal.returns-clause-below
returns-clause-below c =
    let wider : 256 ^ length c.part_at.result.now ≤ 256 ^ c.args.size = pow-le-pow_right {n = 256} (lit< tt) c.part_at.ensures.at_most in
    omega (arith, wider, c.number_of_bytes.ensures.below)
