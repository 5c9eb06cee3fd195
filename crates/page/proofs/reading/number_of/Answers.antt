use Rattle.std.proofs.Common.{arith}
use Rattle.std.proofs.lemmas.List.Sums.{fold_more}
use Rattle.page.proofs.reading.number_of.Goals as goal

pub bytes-preserved : goal.bytes-preserved
bytes-preserved c = grind (arith, fold_more)
