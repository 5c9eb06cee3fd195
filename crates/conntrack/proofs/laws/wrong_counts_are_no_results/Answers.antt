use Rattle.conntrack.proofs.WrongRuns as wrong
use Rattle.conntrack.proofs.laws.wrong_counts_are_no_results.Goals as goal

pub returns-clause-uncounted : goal.returns-clause-uncounted
returns-clause-uncounted c = wrong.uncounted_runs

pub returns-clause-storing : goal.returns-clause-storing
returns-clause-storing c = wrong.storing_runs
