use Rattle.std.proofs.Common.{refl, arith}
use Rattle.faults.proofs.TableLemmas.{row_by}
use Rattle.faults.proofs.table.scripts.Goals as goal

pub returns-in_default : goal.returns-in_default
returns-in_default c = row_by _ 95 _ (omega (arith, c.requires, c.in_default)) (record { number_is = refl; name_is = refl; first_is = refl; second_is = refl })
