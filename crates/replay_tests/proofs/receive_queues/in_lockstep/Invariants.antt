use Rattle.rx_queues.specs.Passes.{IsPutPassOf, IsTakePassOf}
use Rattle.replay_tests.proofs.receive_queues.in_lockstep.Given as goal

abbrev pub invariant-turns : goal.invariant-turns
invariant-turns g l = IsPutPassOf l.queues l.put × IsTakePassOf l.queues l.take
