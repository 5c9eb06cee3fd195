use Rattle.std.proofs.Common.{◌≡◌}
use Rattle.page.specs.Named.{with_busiest}
use Rattle.page.proofs.named.put_busiest.Given as goal

abbrev pub invariant-times : goal.invariant-times
invariant-times l = l.named.items ≡ with_busiest l.counts l.fn.named.items l._time
