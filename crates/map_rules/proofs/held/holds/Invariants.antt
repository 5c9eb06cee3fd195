use Rattle.std.proofs.Common.{◌≡◌, ◌≤◌, length, reverse, take}
use Rattle.semantics.specs.Reclamation.{holds}
use Rattle.map_rules.proofs.held.holds.Given as goal

abbrev pub invariant-newer : goal.invariant-newer
invariant-newer g l = record {
  within : l.older ≤ length (g.J.Entries.entries l.journal);
  rest : holds l.worker l.cell (reverse (take l.older (g.J.Entries.entries l.journal))) ≡ holds l.worker l.cell (reverse (g.J.Entries.entries l.journal));
}

abbrev pub decreases-newer : goal.decreases-newer
decreases-newer g l = l.older
