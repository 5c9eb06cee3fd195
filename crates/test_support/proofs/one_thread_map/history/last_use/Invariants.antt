use Rattle.std.proofs.Common.{◌≡◌, ◌≤◌, length, reverse, take}
use Rattle.semantics.specs.LeastRecentlyUsed.{last_use}
use Rattle.test_support.proofs.one_thread_map.history.last_use.Given as goal

abbrev pub invariant-newer : goal.invariant-newer
invariant-newer l = record {
  within : l.older ≤ length l.journal;
  rest : last_use l.key (reverse (take l.older l.journal)) ≡ last_use l.key (reverse l.journal);
}

abbrev pub decreases-newer : goal.decreases-newer
decreases-newer l = l.older
