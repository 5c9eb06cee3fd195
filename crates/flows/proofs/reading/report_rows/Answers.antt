use Rattle.flows.proofs.ReadingLemmas.{refused_as}
use Rattle.flows.proofs.reading.report_rows.Goals as goal

pub returns-in-Err-clause-refused : goal.returns-in-Err-clause-refused
returns-in-Err-clause-refused c = refused_as _ _ _ c.in-Err.ensures.refused c.from.ensures
