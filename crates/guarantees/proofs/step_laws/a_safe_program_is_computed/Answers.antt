use Rattle.guarantees.proofs.RowStates.{safe_row}
use Rattle.guarantees.proofs.step_laws.a_safe_program_is_computed.Goals as goal

pub returns : goal.returns
returns c = safe_row c.accepted_is_safe.ensures
