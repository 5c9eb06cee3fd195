use Rattle.verifier.proofs.shared.SafetyLemmas.{safe_image}
use Rattle.verifier.proofs.laws.accepted_is_safe.Goals as goal

pub returns : goal.returns
returns c = λ version maps code states encodable accepted. safe_image version maps code states encodable accepted
