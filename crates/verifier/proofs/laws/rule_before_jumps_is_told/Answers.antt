use Rattle.verifier.proofs.AnswerLemmas.{rule_before_jumps_is_told}
use Rattle.verifier.proofs.laws.rule_before_jumps_is_told.Goals as goal

pub returns : goal.returns
returns c = rule_before_jumps_is_told
