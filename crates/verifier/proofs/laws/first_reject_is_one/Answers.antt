use Rattle.verifier.proofs.AnswerLemmas.{first_reject_is_one}
use Rattle.verifier.proofs.laws.first_reject_is_one.Goals as goal

pub returns : goal.returns
returns c = first_reject_is_one
