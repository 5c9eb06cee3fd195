use Rattle.std.proofs.Common.{◌≡◌}
use Rattle.replay_tests.proofs.captures.drained.Given as goal

abbrev pub invariant-reading : goal.invariant-reading
invariant-reading l = l.source.failures ≡ 0
