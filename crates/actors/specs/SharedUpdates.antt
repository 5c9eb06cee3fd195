-- What the controller's updates are to shards that it shares with other callers.
use Rattle.std.specs.Prelude.{◌≡◌, ℕ, ℤ, List, ◌∷◌, length, Some, slice_get}
use Rattle.ebpf_decode.specs.declared.map.MapDef.{MapDef}
use Rattle.semantics.specs.declared.options.Options.{Options}
use Rattle.semantics.specs.declared.plan.ShardPlan.{ShardPlan}
use Rattle.semantics.specs.declared.call.Caller.TheVariants.{Controller}
use Rattle.semantics.specs.declared.call.Call.{Call}
use Rattle.semantics.specs.declared.call.Call.TheVariants.{Update}
use Rattle.semantics.specs.declared.call.Reply.TheVariants.{Answer}
use Rattle.semantics.specs.declared.linux.UpdateFlags.TheVariants.{Any}
use Rattle.semantics.specs.Linux.{flags_number}
use Rattle.semantics.specs.Program.{shard_in_map}
use Rattle.semantics.specs.ShardPlan.{AreOptions}
use Rattle.journals.specs.JournalsView.{AreImageMaps}
use Rattle.semantics.specs.History.{entry_of}
use Rattle.shards.specs.declared.deeds.Deed.TheVariants.{Wrote, MetFull}
use Rattle.shards.specs.SharedMaps.{ArePlans}
use Rattle.shards.specs.Passes.{PassView, IsElsewhereSame}
use Rattle.shards.specs.Asked.{PassIsServed, PassIsRefused}
use Rattle.control.specs.MapUpdates.{UpdateBytes}

pub record UpdatesView : Type 0 where
  pub maps : List MapDef
  -- what the shards were opened with
  pub options : Options
  -- the controller's
  pub pass : PassView

pub record IsControllersPort (count : ℕ) (plan : ℕ → ShardPlan) (maps : List MapDef) (options : Options) (pass : PassView) : Type 0 where
  pub plans : ArePlans maps options count plan
  pub options_fit : AreOptions maps options
  pub maps_are : AreImageMaps maps
  pub who : pass.who ≡ Controller

-- the map has keys of this length
pub record HasUpdateOf (maps : List MapDef) (map : ℕ) (key : List ℕ) : Type 0 where
  pub definition : MapDef
  pub known : slice_get maps map ≡ Some definition
  pub key_size : length key ≡ definition.key_size

-- the number of the shard of a map's key
abbrev pub shard_of_map_key : List MapDef → Options → ℕ → List ℕ → ℕ
shard_of_map_key maps options map key = shard_in_map (slice_get maps map) options.shards map key

abbrev pub shard_of : List MapDef → Options → UpdateBytes → ℕ
shard_of maps options update = shard_of_map_key maps options update.map update.key

-- in the shards of a port
abbrev pub shard_for : UpdatesView → UpdateBytes → ℕ
shard_for port update = shard_of port.maps port.options update

-- an update is made whether or not its key is present
abbrev pub controller_update : ℕ → UpdateBytes → Call
controller_update number update = Update number update.key update.value (flags_number Any)

-- the update is one Update of the shard that its key has, with this answer, and nothing else; the controller did that last
pub record IsUpdated (plan : ℕ → ShardPlan) (before : UpdatesView) (update : UpdateBytes) (answer : ℤ) (after : UpdatesView) : Type 0 where
  pub maps : after.maps ≡ before.maps
  pub options : after.options ≡ before.options
  pub of_map : slice_get before.maps update.map ≡ Some (plan (shard_for before update)).definition
  pub elsewhere : IsElsewhereSame (shard_for before update) before.pass after.pass
  pub answered : PassIsServed (plan (shard_for before update)) (shard_for before update) before.pass after.pass
      (controller_update (shard_for before update) update) (Answer answer)
  pub did :
      after.pass.deeds ≡ Wrote (entry_of Controller (controller_update (shard_for before update) update) (Answer answer)) ∷ before.pass.deeds

-- the journal of the shard that its key has is full for it at the end of what the controller has then seen; and nothing was changed:
-- the controller met the full journal last
pub record IsTurnedAway (plan : ℕ → ShardPlan) (before : UpdatesView) (update : UpdateBytes) (after : UpdatesView) : Type 0 where
  pub maps : after.maps ≡ before.maps
  pub options : after.options ≡ before.options
  pub of_map : slice_get before.maps update.map ≡ Some (plan (shard_for before update)).definition
  pub elsewhere : IsElsewhereSame (shard_for before update) before.pass after.pass
  pub refused : PassIsRefused (plan (shard_for before update)) (shard_for before update) before.pass after.pass
      (controller_update (shard_for before update) update)
  pub did : after.pass.deeds ≡ MetFull Controller (controller_update (shard_for before update) update) ∷ before.pass.deeds
