use Rattle.conntrack.proofs.FlowLemmas as flow
use Rattle.conntrack.proofs.shared.RuleLemmas as rule
use Rattle.conntrack.proofs.laws.reads_follow_the_rule.Goals as goal

pub returns-clause-rule : goal.returns-clause-rule
returns-clause-rule c = rule.follows_rule

pub returns-clause-service : goal.returns-clause-service
returns-clause-service c = flow.asks_for_the_service
