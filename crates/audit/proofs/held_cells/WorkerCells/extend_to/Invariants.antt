use Rattle.std.proofs.Common.{◌≡◌, ℕ, ◌+◌, ◌-◌, length}
use Rattle.audit.specs.HeldCells.{serial_found}
use Rattle.audit.proofs.held_cells.WorkerCells.extend_to.Given as goal

abbrev pub invariant-places : goal.invariant-places
invariant-places l = record {
  since : l.self.since ≡ l.initial.self.since;
  same : (other : ℕ) → serial_found l.self other ≡ serial_found l.initial.self other;
}

abbrev pub decreases-places : goal.decreases-places
decreases-places l = l.cell + 1 - length l.self.found.items
