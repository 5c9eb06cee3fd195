use Rattle.std.proofs.Common.{◌<◌, arith}
use Rattle.traffic.proofs.TallyLemmas.{all_added}
use Rattle.traffic.proofs.counts.add_counts.Goals as goal

pub returns : goal.returns
returns c = all_added c.args.counts.now c.args.others.now c.places.counts c.places.invariant.0
    (λ place below.
    let within : place < c.places.place = omega (arith, below, c.places-test.false) in
    c.places.invariant.1 place within)
