use Rattle.std.proofs.Common.{◌≡◌, ℕ, [], length}
use Rattle.std.specs.Prelude.{Some, slice_get}
use Rattle.audit.specs.declared.held_cells.WorkerCells.{WorkerCells}
use Rattle.audit.specs.HeldCells.{Tells}
use Rattle.audit.proofs.held_cells.HeldCells.new.Given as goal

abbrev pub invariant-numbers : goal.invariant-numbers
invariant-numbers l = record {
  counted : length l.workers.items ≡ l.counter;
  each : (worker : ℕ) (cells : WorkerCells) → slice_get l.workers.items worker ≡ Some cells → Tells worker [] cells;
}
