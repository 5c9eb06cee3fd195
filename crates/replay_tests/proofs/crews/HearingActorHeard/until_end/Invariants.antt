use Rattle.std.proofs.Common.{◌≡◌}
use Rattle.rx_queues.specs.Passes.{IsTakePassOf, place_taken_from}
use Rattle.replay_tests.proofs.crews.HearingActorHeard.until_end.Given as goal

abbrev pub invariant-jobs : goal.invariant-jobs
invariant-jobs g l = IsTakePassOf l.queues l.take × (place_taken_from l.take ≡ place_taken_from l.fn.take)
