use Rattle.std.proofs.Common.{◌≡◌, ◌≤◌, length, reverse, take}
use Rattle.semantics.specs.Reclamation.{entered_at}
use Rattle.test_support.proofs.one_thread_map.history.entered_at.Given as goal

abbrev pub invariant-newer : goal.invariant-newer
invariant-newer l = record {
  within : l.older ≤ length l.journal;
  rest : entered_at l.worker (reverse (take l.older l.journal)) ≡ entered_at l.worker (reverse l.journal);
}

abbrev pub decreases-newer : goal.decreases-newer
decreases-newer l = l.older
