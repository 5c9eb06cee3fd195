use Rattle.fleet.specs.Parts.{part_of_record}
use Rattle.fleet.proofs.LossLemmas.{record_below}
use Rattle.fleet.proofs.Totals.{over_lengths}
use Rattle.fleet.proofs.laws.lengths_add_up.Goals as goal

pub returns : goal.returns
returns c = λ of lost records some can. over_lengths (part_of_record of lost) of (record_below of lost some can) records
