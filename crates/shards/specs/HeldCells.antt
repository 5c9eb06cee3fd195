-- The cells that a worker holds in a shard, as its pass keeps them.
use Rattle.std.specs.Prelude.{◌≡◌, ◌*◌, ◌≤◌, ◌<◌, ◌&&◌, ℕ, Bool, false, List, [], ◌∷◌, ◌++◌, length, slice_index_or, Result, Ok, Err}
use Rattle.std.specs.Prelude.{if◌then◌else◌}
use Rattle.semantics.specs.declared.call.Caller.{Caller}
use Rattle.semantics.specs.declared.call.Caller.TheVariants.{Worker}
use Rattle.semantics.specs.declared.call.Entry.{Entry}
use Rattle.semantics.specs.declared.full.JournalFull.{JournalFull}
use Rattle.semantics.specs.declared.plan.ShardPlan.{ShardPlan}
use Rattle.semantics.specs.ShardPlan.{capacity}
use Rattle.semantics.specs.Reclamation.{is_inside, holds}
use Rattle.shard_core.specs.FewHeld.{is_among, AreOnce}
use Rattle.semantics.specs.declared.call.HeldChange.{HeldChange}
use Rattle.semantics.specs.declared.call.HeldChange.TheVariants.{LetsGo, Finds, Stays}

-- the caller is a worker inside, and found the cell by a Lookup since it entered
abbrev pub holds_own : Caller → List Entry → ℕ → Bool
holds_own (Worker number) own cell = is_inside number own && holds number cell own
holds_own who own cell = false

-- ---- the list of them

-- the ids of the cells, in the order in which they were found, and for how many there is room
pub record HeldIds : Type 0 where
  pub room : ℕ
  pub ids : List ℕ

abbrev pub no_ids : HeldIds
no_ids = record { room = 0; ids = [] }

abbrev pub held_at : List HeldIds → ℕ → HeldIds
held_at held number = slice_index_or held number no_ids

-- how many cells a worker can hold in a shard of this plan, at most: two for each entry (an array's shard has one)
abbrev pub most_held : ShardPlan → ℕ
most_held plan = 2 * capacity plan

abbrev pub ids_after : HeldChange → List ℕ → List ℕ
ids_after LetsGo ids = []
ids_after (Finds id) ids = if is_among id ids then ids else (ids ++ id ∷ [])
ids_after Stays ids = ids

abbrev pub held_after : HeldChange → HeldIds → HeldIds
held_after change held = record { room = held.room; ids = ids_after change held.ids }

-- and a call that may be refused
abbrev pub held_when : {A : Type 0} → Result A JournalFull → (A → HeldChange) → HeldIds → HeldIds
held_when (Ok answer) change held = held_after (change answer) held
held_when (Err full) change held = held

-- one cell more has room, if it is not among them
abbrev pub HasRoomFor : HeldChange → HeldIds → Type 0
HasRoomFor (Finds id) held = is_among id held.ids ≡ false → length held.ids < held.room
HasRoomFor change held = Unit {0}

-- ---- a pass's list

-- each cell that the worker holds is among them once, and no other; there is room for as many as it can hold
pub record AreHeldBy (worker : ℕ) (plan : ShardPlan) (own : List Entry) (held : HeldIds) : Type 0 where
  pub some_room : most_held plan ≤ held.room
  pub once : AreOnce held.ids
  pub each : (cell : ℕ) → is_among cell held.ids ≡ holds worker cell own

-- a worker's list says it; what the others' lists say is nobody's concern, since they hold nothing
abbrev pub AreHeldOf : Caller → ShardPlan → List Entry → HeldIds → Type 0
AreHeldOf (Worker number) plan own held = AreHeldBy number plan own held
AreHeldOf who plan own held = Unit {0}

-- for how many cells of each shard a worker has room
abbrev pub room_at : List ℕ → ℕ → ℕ
room_at rooms number = slice_index_or rooms number 0

-- there is room for as many cells of the shard as a worker can hold
abbrev pub IsRoomOf : (ℕ → ShardPlan) → ℕ → ℕ → Type 0
IsRoomOf plan number room = most_held (plan number) ≤ room

-- how many cells the caller can hold in a shard, if a worker can hold N
abbrev pub room_of : Caller → ℕ → ℕ
room_of (Worker number) room = room
room_of who room = 0
