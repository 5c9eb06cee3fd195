-- What is kept of a worker's entries to know which cells it holds: serials, which are places of the journal counted from 1, and 0 for none.
use Rattle.std.specs.Prelude.{◌≡◌, ℕ, ◌≤◌, ◌==◌, Bool, nat_lt, cond, List, length, Some, slice_get, slice_index_or}
use Rattle.semantics.specs.declared.call.HeldChange.{HeldChange}
use Rattle.semantics.specs.declared.call.HeldChange.TheVariants.{LetsGo, Finds}
use Rattle.semantics.specs.declared.call.Entry.{Entry}
use Rattle.semantics.specs.Reclamation.{holds}
use Rattle.audit.specs.declared.held_cells.WorkerCells.{WorkerCells}
use Rattle.audit.specs.declared.held_cells.HeldCells.{HeldCells}

-- the serial of the newest Lookup that found the cell
abbrev pub serial_found : WorkerCells → ℕ → ℕ
serial_found cells cell = slice_index_or cells.found.items cell 0

-- a Lookup found it since the worker's newest Enter or Leave
abbrev pub is_found_since : WorkerCells → ℕ → Bool
is_found_since cells cell = nat_lt cells.since (serial_found cells cell)

-- the serial of the newest Enter or Leave, once there is one entry more
abbrev pub since_after : HeldChange → ℕ → ℕ → ℕ
since_after LetsGo serial before = serial
since_after change serial before = before

-- the serial of the newest Lookup that found the cell, once there is one entry more
abbrev pub found_after : HeldChange → ℕ → ℕ → ℕ → ℕ
found_after (Finds id) serial cell before = cond (id == cell) serial before
found_after change serial cell before = before

-- what is kept of this worker says which cells it holds after this history
pub record Tells (worker : ℕ) (history : List Entry) (cells : WorkerCells) : Type 0 where
  pub holding : (cell : ℕ) → is_found_since cells cell ≡ holds worker cell history
  pub since_within : cells.since ≤ length history
  pub found_within : (cell : ℕ) → serial_found cells cell ≤ length history

-- and so of each worker
pub record AreHeld (held : HeldCells) (history : List Entry) : Type 0 where
  pub eight : length held.workers.items ≡ 8
  pub each : (worker : ℕ) (cells : WorkerCells) → slice_get held.workers.items worker ≡ Some cells → Tells worker history cells
