use Rattle.std.proofs.Common.{arith}
use Rattle.std.proofs.lemmas.List.Sums.{fold_more}
use Rattle.page.proofs.tallies.earliest.Goals as goal

pub moments-preserved : goal.moments-preserved
moments-preserved c = grind (arith, fold_more)
