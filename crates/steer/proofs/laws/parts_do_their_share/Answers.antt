use Rattle.steer.proofs.WholeProgram as whole
use Rattle.steer.proofs.laws.parts_do_their_share.Goals as goal

pub returns-clause-flow : goal.returns-clause-flow
returns-clause-flow c = whole.flow_part

pub returns-clause-vip : goal.returns-clause-vip
returns-clause-vip c = whole.vip_part

pub returns-clause-guards : goal.returns-clause-guards
returns-clause-guards c = whole.guards_part

pub returns-clause-tracking : goal.returns-clause-tracking
returns-clause-tracking c = whole.tracking_part

pub returns-clause-ring : goal.returns-clause-ring
returns-clause-ring c = whole.ring_part

pub returns-clause-tunnel : goal.returns-clause-tunnel
returns-clause-tunnel c = whole.tunnel_part

pub returns-clause-count : goal.returns-clause-count
returns-clause-count c = whole.count_part

pub returns-clause-count_of_pass : goal.returns-clause-count_of_pass
returns-clause-count_of_pass c = whole.pass_part

pub returns-clause-count_of_drop : goal.returns-clause-count_of_drop
returns-clause-count_of_drop c = whole.drop_part
