use Rattle.guarantees.proofs.RowRuns.{run_rows}
use Rattle.guarantees.proofs.step_laws.runs_are_computed.Goals as goal

pub returns : goal.returns
returns c = run_rows
