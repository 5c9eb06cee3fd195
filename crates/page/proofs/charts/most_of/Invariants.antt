use Rattle.std.proofs.Common.{◌≡◌, ◌≤◌, take}
use Rattle.std.specs.Prelude.{fold, max}
use Rattle.page.proofs.charts.most_of.Given as goal

abbrev pub invariant-totals : goal.invariant-totals
invariant-totals l = (l.most ≡ fold max 1 (take l.total-index l.totals)) × (1 ≤ l.most)
