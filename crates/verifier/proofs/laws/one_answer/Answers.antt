use Rattle.verifier.proofs.AnswerLemmas.{one_answer}
use Rattle.verifier.proofs.laws.one_answer.Goals as goal

pub returns : goal.returns
returns c = one_answer
