use Rattle.std.proofs.Common.{arith}
use Rattle.std.proofs.lemmas.List.Sums.{fold_more}
use Rattle.page.proofs.charts.most_of.Goals as goal

pub totals-preserved : goal.totals-preserved
totals-preserved c = (grind (arith, fold_more), grind arith)
