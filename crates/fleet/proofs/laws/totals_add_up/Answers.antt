use Rattle.fleet.specs.Parts.{part_of_record}
use Rattle.fleet.proofs.LossLemmas.{record_below}
use Rattle.fleet.proofs.Totals.{over_labels}
use Rattle.fleet.proofs.laws.totals_add_up.Goals as goal

pub returns : goal.returns
returns c = λ of lost records figure some can. over_labels figure (part_of_record of lost) of (record_below of lost some can) records
