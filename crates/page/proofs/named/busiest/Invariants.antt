use Rattle.std.proofs.Common.{◌≡◌}
use Rattle.page.specs.Named.{busiest}
use Rattle.page.proofs.named.busiest.Given as goal

abbrev pub invariant-keys : goal.invariant-keys
invariant-keys l = l.best ≡ busiest l.counts l.named l.key
