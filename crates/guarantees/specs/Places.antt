-- Who is inside a shard and which cells it holds, by places in the history alone: an Enter that no Leave of its caller follows, and after
-- it a Lookup that is answered with the cell. Histories have the newest entry first.
use Rattle.std.specs.Prelude.{◌≡◌, ◌↔◌, ℕ, Bool, true, false, ◌&&◌, List, ◌∷◌, ◌++◌, IsTrue, IsFalse}
use Rattle.std.specs.List.{AllByRecursion}
use Rattle.semantics.specs.declared.call.Call.{Call}
use Rattle.semantics.specs.declared.call.Call.TheVariants.{Enter, Leave, Lookup}
use Rattle.semantics.specs.declared.call.CellRef.{CellRef}
use Rattle.semantics.specs.declared.call.Reply.TheVariants.{Cell}
use Rattle.semantics.specs.declared.call.Entry.{Entry}
use Rattle.semantics.specs.declared.plan.ShardPlan.{ShardPlan}
use Rattle.semantics.specs.Reclamation.{is_worker, IsInside, Holds}
use Rattle.semantics.specs.History.{IsLegalHistory}

abbrev pub is_enter : Call → Bool
is_enter (Enter shard) = true
is_enter call = false

abbrev pub is_leave : Call → Bool
is_leave (Leave shard) = true
is_leave call = false

-- no entry is a Leave of the worker's
abbrev pub NoLeaveOf : ℕ → List Entry → Type 0
NoLeaveOf worker entries = AllByRecursion (λ (entry : Entry). IsFalse (is_worker worker entry.who && is_leave entry.call)) entries

-- the worker's Enter is at a place that no Leave of its own follows
pub record IsInsideByPlace (worker : ℕ) (history : List Entry) : Type 0 where
  pub newer : List Entry
  pub enter : Entry
  pub older : List Entry
  pub place : history ≡ newer ++ enter ∷ older
  pub own : IsTrue (is_worker worker enter.who)
  pub enters : IsTrue (is_enter enter.call)
  pub no_leave : NoLeaveOf worker newer

-- the entry is a Lookup of the worker's that was answered with the cell of this id
pub record HasFound (worker cell : ℕ) (entry : Entry) : Type 0 where
  pub own : IsTrue (is_worker worker entry.who)
  pub shard : ℕ
  pub key : List ℕ
  pub asked : entry.call ≡ Lookup shard key
  pub found : CellRef
  pub answered : entry.reply ≡ Cell found
  pub id_is : found.id ≡ cell

-- such an Enter is followed by such a Lookup
pub record HoldsByPlace (worker cell : ℕ) (history : List Entry) : Type 0 where
  pub inside : IsInsideByPlace worker history
  pub newer : List Entry
  pub lookup : Entry
  pub older : List Entry
  pub place : inside.newer ≡ newer ++ lookup ∷ older
  pub found : HasFound worker cell lookup

-- ---- the laws

abbrev pub InsideIsByPlace : Type 0
InsideIsByPlace = (worker : ℕ) (history : List Entry) → IsInside worker history ↔ IsInsideByPlace worker history

abbrev pub HeldIsByPlace : Type 0
HeldIsByPlace =
    (plan : ShardPlan) (worker cell : ℕ) (history : List Entry) → IsLegalHistory plan history →
    Holds worker cell history ↔ HoldsByPlace worker cell history
