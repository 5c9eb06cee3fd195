use Rattle.std.proofs.Common.{◌≡◌, ◌≤◌, ◌*◌, ◌^◌}
use Rattle.page.specs.Svg.{sum_of}
use Rattle.page.proofs.svg.sum_of.Given as goal

abbrev pub invariant-classes : goal.invariant-classes
invariant-classes l = (l.sum ≡ sum_of l.counts l.cell l.class) × (l.sum ≤ l.class * 2 ^ 64)
