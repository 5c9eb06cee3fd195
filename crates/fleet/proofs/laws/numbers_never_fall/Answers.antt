use Rattle.fleet.specs.Parts.{is_in_part}
use Rattle.fleet.proofs.shared.PartLemmas.{few_pass, never_fewer}
use Rattle.fleet.proofs.laws.numbers_never_fall.Goals as goal

pub returns : goal.returns
returns c = λ of lost number frame later records le.
    (never_fewer (is_in_part of lost number) records frame later le, few_pass (is_in_part of lost number) records frame)
