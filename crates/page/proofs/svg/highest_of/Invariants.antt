use Rattle.std.proofs.Common.{◌≡◌, ◌≤◌, ◌^◌}
use Rattle.page.specs.Svg.{highest_of}
use Rattle.page.proofs.svg.highest_of.Given as goal

abbrev pub invariant-slots : goal.invariant-slots
invariant-slots l = (l.most ≡ highest_of l.counts l.classes l.slot) × (1 ≤ l.most) × (l.most ≤ 2 ^ 80)
