use Rattle.guarantees.proofs.RowAlone.{alone_row}
use Rattle.guarantees.proofs.step_laws.runs_alone_are_computed.Goals as goal

pub returns : goal.returns
returns c = alone_row c.runs_alone_are_of_the_system.ensures c.stopped_runs_alone_are_of_the_system.ensures
