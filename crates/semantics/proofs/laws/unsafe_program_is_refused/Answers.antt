use Rattle.semantics.proofs.RowLemmas.{unsafe_is_refused}
use Rattle.semantics.proofs.laws.unsafe_program_is_refused.Goals as goal

pub returns : goal.returns
returns c = unsafe_is_refused
