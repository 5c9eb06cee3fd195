use Rattle.std.proofs.Common.{◌≡◌, ◌≤◌, ◌*◌}
use Rattle.traffic.specs.Shares.{entry_gains}
use Rattle.traffic.proofs.shares.gains_below.Given as goal

abbrev pub invariant-below : goal.invariant-below
invariant-below l = (l.gains ≡ entry_gains l.old l.new l.word) × (l.gains ≤ l.word * 18446744073709551615)
