use Rattle.std.proofs.Common.{◌≡◌, ◌≤◌}
use Rattle.traffic.specs.NotSent.{not_sent_below}
use Rattle.traffic.proofs.not_sent.NotSent.count.Given as goal

abbrev pub invariant-places : goal.invariant-places
invariant-places l = (l.count ≡ not_sent_below l.self l.frames l.verdicts l.place) × (l.count ≤ l.place)
