use Rattle.semantics.proofs.TraceRowLemmas.{spilled_come_back}
use Rattle.semantics.proofs.laws.spilled_pointers_come_back.Goals as goal

pub returns : goal.returns
returns c = spilled_come_back
