-- What a shard knows of a caller before its call, from which the caller's condition follows.
use Rattle.std.specs.Prelude.{◌≡◌, ◌&&◌, ℕ, Bool, false, List, Option, Some, None, is_some}
use Rattle.isa.specs.InstructionCodes.{atomic_op_of}
use Rattle.semantics.specs.declared.call.Caller.{Caller}
use Rattle.semantics.specs.declared.call.CellRef.{CellRef}
use Rattle.semantics.specs.declared.call.Call.{Call}
use Rattle.semantics.specs.Cells.{cell_of_call}
use Rattle.semantics.specs.declared.call.Entry.{Entry}
use Rattle.semantics.specs.declared.plan.ShardPlan.{ShardPlan}
use Rattle.semantics.specs.History.{is_inside_worker, is_holder, is_atomic_size, is_in_cell, is_aligned, fits_size, is_expected}
use Rattle.map_rules.specs.declared.conditions.Standing.{Standing}

-- there is a worker, and the test holds of it
abbrev pub is_worker_with : (ℕ → Bool) → Option ℕ → Bool
is_worker_with test (Some worker) = test worker
is_worker_with test None = false

-- an atomic operation of this size may be made at this offset with these numbers
abbrev pub is_atomic : ShardPlan → ℕ → ℕ → ℕ → ℕ → ℕ → Bool
is_atomic plan offset size op value expected =
    is_atomic_size size && (is_in_cell plan offset size && is_aligned offset size) && is_some (atomic_op_of op) && fits_size value size &&
    fits_size expected size && is_expected op expected

abbrev pub is_holder_of : ShardPlan → List Entry → Caller → Option CellRef → Bool
is_holder_of plan history who (Some cell) = is_holder plan history who cell.id
is_holder_of plan history who None = false

-- the caller's standing after this history
pub record IsStanding (plan : ShardPlan) (history : List Entry) (who : Caller) (call : Call) (standing : Standing) : Type 0 where
  pub inside : standing.is_inside ≡ is_inside_worker plan history who
  pub holder : standing.is_holder ≡ is_holder_of plan history who (cell_of_call call)
