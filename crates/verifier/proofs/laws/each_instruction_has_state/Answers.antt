use Rattle.verifier.proofs.ReachLemmas.{each_has_state}
use Rattle.verifier.proofs.laws.each_instruction_has_state.Goals as goal

pub returns : goal.returns
returns c = each_has_state
