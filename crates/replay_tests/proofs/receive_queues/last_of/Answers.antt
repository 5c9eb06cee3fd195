use Rattle.replay_tests.proofs.QueuePasses.{others_take_at_their_places, last_takes_at_its_place}
use Rattle.replay_tests.proofs.receive_queues.last_of.Goals as goal

pub returns-clause-others : goal.returns-clause-others
returns-clause-others c = others_take_at_their_places c.args.queues.now c.args.takes.now.items c.pop.new.self.items _ c.pop.ensures.items c.requires

pub returns-clause-last : goal.returns-clause-last
returns-clause-last c = last_takes_at_its_place c.args.queues.now c.args.takes.now.items c.pop.new.self.items c.pop.result c.pop.ensures.items c.requires
