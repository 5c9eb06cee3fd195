use Rattle.guarantees.proofs.BackToTraces.{runs_are_traces}
use Rattle.guarantees.proofs.step_laws.runs_are_traces.Goals as goal

pub returns : goal.returns
returns c = runs_are_traces
