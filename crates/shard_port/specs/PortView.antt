-- A single caller's port over the shards of an image's maps: what its calls return, and by which words it names cells.
use Rattle.std.specs.Prelude.{◌≡◌, ℕ, ◌+◌, ◌-◌, ◌*◌, ◌/◌, ◌%◌, ◌^◌, ◌<◌, ◌≤◌, ◌==◌, Bool, true, false, ◌&&◌, nat_lt, List}
use Rattle.std.specs.Prelude.{reverse, length, Option, Some, None, slice_get}
use Rattle.std.specs.List.{AllByRecursion}
use Rattle.ebpf_decode.specs.declared.map.MapDef.{MapDef}
use Rattle.semantics.specs.declared.options.Options.{Options}
use Rattle.semantics.specs.declared.call.CellRef.{CellRef}
use Rattle.semantics.specs.declared.call.Call.{Call}
use Rattle.semantics.specs.declared.call.Call.TheVariants.{Enter, Leave, Reclaim}
use Rattle.semantics.specs.declared.call.Reply.{Reply}
use Rattle.semantics.specs.Cells.{cell_of_reply}
pub use Rattle.semantics.specs.ByteCells.{AreBytes, SetsBytes}
use Rattle.semantics.specs.ShardPlan.{plan_at, AreOptions}
use Rattle.semantics.specs.PlanLimits.{HasImageSizes}
use Rattle.semantics.specs.SequentialShard.{shard_after}
use Rattle.semantics.specs.Reclamation.{holds}
use Rattle.semantics.specs.History.{IsLegalJournal}
use Rattle.semantics.specs.RunTrace.{IsReplyTo}
use Rattle.shard_core.specs.JournaledShard.{JournaledShard}
use Rattle.map_port.specs.Served.{Maps, program_over}
use Rattle.shard_port.specs.Asking.{IsAnsweredAmong, IsTurnedAwayAmong}

-- ---- the shards of an image's maps

-- every cell holds bytes
abbrev pub HasByteCells : JournaledShard → Type 0
HasByteCells shard = AllByRecursion AreBytes (shard_after shard.plan (reverse shard.journal)).cells

-- the shard of this number, whatever was called on it
pub record IsShardOf (maps : List MapDef) (options : Options) (number : ℕ) (shard : JournaledShard) : Type 0 where
  pub planned : plan_at maps options number ≡ Some shard.plan
  pub legal : IsLegalJournal shard.plan shard.journal
  pub bytes : HasByteCells shard

-- the shards of these maps, by their numbers
pub record AreShardsOf (maps : List MapDef) (options : Options) (shards : List JournaledShard) : Type 0 where
  pub count : length shards ≡ length maps * options.shards
  pub each : (number : ℕ) (shard : JournaledShard) → slice_get shards number ≡ Some shard → IsShardOf maps options number shard

-- shards of these maps, without a choice of the proof that they are: so it may be in a type
abbrev pub ServesMaps : List MapDef → Options → List JournaledShard → Type 0
ServesMaps maps options shards = ∥ AreShardsOf maps options shards ∥₁

-- what each port keeps: maps that an image may have, options that shards are opened with, one of their workers, the shards
pub record IsPortReady (maps : List MapDef) (options : Options) (worker : ℕ) (shards : List JournaledShard) : Type 0 where
  pub few : length maps ≤ 16
  pub sizes : AllByRecursion HasImageSizes maps
  pub are_options : AreOptions maps options
  pub is_worker : worker < options.workers
  pub are_shards : AreShardsOf maps options shards

-- ---- handles

-- the cell of a handle: the shard's number is above the cell's id, from 1 on
abbrev pub cell_of_handle : ℕ → CellRef
cell_of_handle handle = record { shard = (handle - 1) / 2 ^ 32; id = (handle - 1) % 2 ^ 32 }

-- the handle of a cell; 0 where there is none
abbrev pub handle_of_cell : Option CellRef → ℕ
handle_of_cell (Some cell) = cell.shard * 2 ^ 32 + cell.id + 1
handle_of_cell None = 0

-- the handle of the cell that a lookup found
abbrev pub handle_of : Reply → ℕ
handle_of reply = handle_of_cell (cell_of_reply reply)

-- ---- what a call returns

-- a port's maps, its worker, and its shards by their numbers
pub record PortView : Type 0 where
  pub served : Maps
  pub worker : ℕ
  pub shards : List JournaledShard

abbrev pub holds_at : ℕ → Option JournaledShard → ℕ → Bool
holds_at worker (Some shard) cell = holds worker cell (reverse shard.journal)
holds_at worker None cell = false

-- the shard is one of the map's, and the worker holds the cell there
abbrev pub is_handed_out : PortView → ℕ → ℕ → ℕ → Bool
is_handed_out port map shard cell = (shard / port.served.shards == map) && holds_at port.worker (slice_get port.shards shard) cell

-- a call that a run may make: entering and leaving are the port's own
abbrev pub IsRunCall : Call → Type 0
IsRunCall (Enter shard) = ⊥
IsRunCall (Leave shard) = ⊥
IsRunCall (Reclaim shard) = ⊥
IsRunCall call = Unit {0}

-- the call's shard answered as the one-thread shard does, entered before if the worker was not inside
pub record IsGivenBy (before : PortView) (call : Call) (reply : Reply) (after : PortView) : Type 0 where
  pub same_maps : after.served ≡ before.served
  pub same_worker : after.worker ≡ before.worker
  pub some_shard : 0 < before.served.shards
  pub run_call : IsRunCall call
  pub sets_bytes : SetsBytes call
  pub formed : IsReplyTo (program_over before.served) call reply
  pub answered : IsAnsweredAmong before.worker before.shards call reply after.shards

-- the call's shard had no room for the Enter or for the call
pub record IsRefusedBy (before : PortView) (call : Call) (after : PortView) : Type 0 where
  pub same_maps : after.served ≡ before.served
  pub same_worker : after.worker ≡ before.worker
  pub turned_away : IsTurnedAwayAmong before.worker before.shards call after.shards

-- ---- cells that a handle can name

-- a cell whose shard and id stay apart in a handle
abbrev pub is_small_cell : Option CellRef → Bool
is_small_cell (Some cell) = nat_lt cell.shard 128 && nat_lt cell.id (2 ^ 32)
is_small_cell None = true

abbrev pub has_small_cell : Reply → Bool
has_small_cell reply = is_small_cell (cell_of_reply reply)
