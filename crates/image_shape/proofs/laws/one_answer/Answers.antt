use Rattle.image_shape.proofs.shared.LawLemmas as laws
use Rattle.image_shape.proofs.laws.one_answer.Goals as goal

pub returns-clause-no_fault : goal.returns-clause-no_fault
returns-clause-no_fault c = laws.no_fault

pub returns-clause-one_fault : goal.returns-clause-one_fault
returns-clause-one_fault c = laws.one_fault
