use Rattle.std.proofs.Common.{◌≡◌}
use Rattle.rx_queues.specs.Passes.{jobs_taken, place_taken_from, IsTakePassOf}
use Rattle.rx_queues.proofs.passes.Queues.take_waiting.Given as goal

abbrev pub invariant-tries : goal.invariant-tries
invariant-tries g l = IsTakePassOf l.self l.pass × (place_taken_from l.pass ≡ place_taken_from l.initial.pass)
    × (jobs_taken l.pass ≡ jobs_taken l.initial.pass)
