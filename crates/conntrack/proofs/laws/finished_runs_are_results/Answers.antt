use Rattle.conntrack.proofs.shared.ResultLemmas as result
use Rattle.conntrack.proofs.laws.finished_runs_are_results.Goals as goal

pub returns : goal.returns
returns c = result.finished_runs
