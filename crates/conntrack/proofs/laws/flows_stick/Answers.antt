use Rattle.conntrack.proofs.FlowLemmas as flow
use Rattle.conntrack.proofs.laws.flows_stick.Goals as goal

pub returns : goal.returns
returns c = flow.flows_stick
