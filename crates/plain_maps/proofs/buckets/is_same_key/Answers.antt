use Rattle.std.proofs.Common.{arith}
use Rattle.plain_maps.proofs.Keys.{same_decided}
use Rattle.plain_maps.proofs.buckets.is_same_key.Goals as goal

pub returns : goal.returns
returns c = same_decided c.loop-i.same c.args.a.now c.args.b.now c.requires (λ same k lt. c.loop-i.invariant.same same k (omega (arith, c.loop-i-test.false, lt))) (λ apart. let there = c.loop-i.invariant.apart apart in (there.0, omega (arith, there.1, c.loop-i.auto.i-end), there.2))
