-- What the commands of a script become: updates with their answers, and with them the entries of the controller in the shards' journals.
use Rattle.std.specs.Prelude.{◌≡◌, ◌≢◌, ℕ, ◌==◌, ℤ, ◌⊎◌, true, false, List, [], ◌∷◌, ◌++◌, map, Option, Some, None, IfSome}
use Rattle.std.specs.Prelude.{IsTrue, is_some, slice_get, reverse, if◌then◌else◌}
use Rattle.std.specs.List.{AllByRecursion, flat_map}
use Rattle.ebpf_decode.specs.declared.map.MapDef.{MapDef}
use Rattle.semantics.specs.declared.options.Options.{Options}
use Rattle.semantics.specs.declared.plan.ShardPlan.{ShardPlan}
use Rattle.semantics.specs.declared.call.Caller.TheVariants.{Controller}
use Rattle.semantics.specs.declared.call.Entry.{Entry}
use Rattle.semantics.specs.declared.call.Reply.TheVariants.{Answer}
use Rattle.semantics.specs.History.{IsJournalFull}
use Rattle.semantics.specs.Linux.{success}
use Rattle.shards.specs.CallerView.{BeginsWith}
use Rattle.shards.specs.declared.deeds.Deed.{Deed}
use Rattle.shards.specs.declared.deeds.Deed.TheVariants.{Wrote, MetFull}
use Rattle.shards.specs.Passes.{PassView, own_at, seen_at}
use Rattle.conntrack.specs.SteeringMaps.{AreSteeringMaps}
use Rattle.map_updates.specs.declared.update.MapUpdate.{MapUpdate}
use Rattle.control.specs.declared.command.Action.{Action}
use Rattle.control.specs.declared.command.Command.{Command}
use Rattle.control.specs.declared.fault.ControlFault.{ControlFault}
use Rattle.control.specs.declared.fault.ControlFault.TheVariants.{BadSize, BadLine, UnknownBackend, BackendTwice, Refused, JournalFull}
use Rattle.control.specs.declared.fault.ControlFault.TheVariants.{Memory}
use Rattle.control.specs.declared.update.Update.{Update as Change}
use Rattle.control.specs.MapUpdates.{UpdateBytes, map_update}
use Rattle.control.specs.Controlling.{ControllerState, IsTable, refusal_of, first_updates, up_after, updates_of, opened_controller}
use Rattle.actors.specs.declared.outcome.Applied.{Applied}
use Rattle.actors.specs.FirstUpdates.{update_bytes}
use Rattle.actors.specs.SharedUpdates.{UpdatesView, shard_of, controller_update}

-- ---- updates with their answers

pub record AnsweredUpdate : Type 0 where
  pub update : UpdateBytes
  pub answer : ℤ

-- each answered 0
abbrev pub done_update : Change → AnsweredUpdate
done_update change = record { update = map_update change; answer = success }

abbrev pub all_done : List Change → List AnsweredUpdate
all_done changes = map done_update changes

-- updates before the first command, each answered 0
abbrev pub all_set : List MapUpdate → List AnsweredUpdate
all_set updates = map (λ (update : MapUpdate). record { update = update_bytes update; answer = success }) updates

-- the entry that an update makes in its shard's history
abbrev pub controller_entry : ℕ → AnsweredUpdate → Entry
controller_entry number made = record { who = Controller; call = controller_update number made.update; reply = Answer made.answer }

-- the history of the shard of a number, newest entry first, with the entry of an update, if the update's key is the shard's
abbrev pub with_update : List MapDef → Options → ℕ → AnsweredUpdate → List Entry → List Entry
with_update maps options number made history =
    if shard_of maps options made.update == number then controller_entry number made ∷ history else history

-- with those of several, one after the other
abbrev pub with_updates : List MapDef → Options → ℕ → List AnsweredUpdate → List Entry → List Entry
with_updates maps options number [] history = history
with_updates maps options number (made ∷ later) history =
    with_updates maps options number later (with_update maps options number made history)

-- ---- what a command did

pub record CommandDone : Type 0 where
  pub action : Action
  -- why it was refused, if it was
  pub fault : Option ControlFault
  -- the updates that were made
  pub made : List AnsweredUpdate
  -- the update that met a full journal, if one did
  pub stopped : Option UpdateBytes

-- ---- what the controller did for them, the oldest deed first

-- each update on the shard of its key, with its answer
abbrev pub made_deeds : List MapDef → Options → List AnsweredUpdate → List Deed
made_deeds maps options made = map (λ (one : AnsweredUpdate). Wrote (controller_entry (shard_of maps options one.update) one)) made

-- the look at a full journal, if an update met one
abbrev pub stop_deeds : List MapDef → Options → Option UpdateBytes → List Deed
stop_deeds maps options None = []
stop_deeds maps options (Some update) = MetFull Controller (controller_update (shard_of maps options update) update) ∷ []

-- a command's updates in their order, and then the look at a full journal that stopped it, if one did
abbrev pub command_deeds : List MapDef → Options → CommandDone → List Deed
command_deeds maps options one = made_deeds maps options one.made ++ stop_deeds maps options one.stopped

-- command after command
abbrev pub commands_deeds : List MapDef → Options → List CommandDone → List Deed
commands_deeds maps options done = flat_map (command_deeds maps options) done

-- ---- what a command makes of the controller

-- all its updates were made, and the backends are up as it says
pub record IsFullyDone (state : ControllerState) (one : CommandDone) (state' : ControllerState) : Type 0 where
  pub owners : List ℕ
  pub table : IsTable state.size (up_after state.up one.action) owners
  pub state_is : state' ≡ record { size = state.size; up = up_after state.up one.action; owners = owners; is_full = false }
  pub made : one.made ≡ all_done (updates_of state (first_updates state.up one.action) owners)
  pub not_stopped : one.stopped ≡ None

-- it was refused before anything was asked
pub record IsNothing (state : ControllerState) (one : CommandDone) (state' : ControllerState) : Type 0 where
  pub made : one.made ≡ []
  pub not_stopped : one.stopped ≡ None
  pub state_is : state' ≡ state

-- its one update was answered so
pub record IsTurnedDown (state : ControllerState) (one : CommandDone) (answer : ℤ) (state' : ControllerState) : Type 0 where
  pub change : Change
  pub only : first_updates state.up one.action ≡ change ∷ []
  pub not_done : answer ≢ success
  pub made : one.made ≡ record { update = map_update change; answer = answer } ∷ []
  pub not_stopped : one.stopped ≡ None
  pub state_is : state' ≡ state

-- an update met a full journal, of a controller that had met none before: those before it were made, and no other
pub record IsCutShort (state : ControllerState) (one : CommandDone) (state' : ControllerState) : Type 0 where
  pub not_full : state.is_full ≡ false
  pub owners : List ℕ
  pub table : IsTable state.size (up_after state.up one.action) owners
  pub state_is : state' ≡ record { size = state.size; up = state.up; owners = state.owners; is_full = true }
  pub begun : List Change
  pub next : Change
  pub later : List Change
  pub in_order : updates_of state (first_updates state.up one.action) owners ≡ begun ++ next ∷ later
  pub made : one.made ≡ all_done begun
  pub stopped : one.stopped ≡ Some (map_update next)

abbrev pub IsRefusedFor : ControllerState → CommandDone → ControllerState → ControlFault → Type 0
IsRefusedFor state one state' UnknownBackend = IsNothing state one state' × (refusal_of state one.action ≡ Some UnknownBackend)
IsRefusedFor state one state' BackendTwice = IsNothing state one state' × (refusal_of state one.action ≡ Some BackendTwice)
IsRefusedFor state one state' (Refused answer) = IsTurnedDown state one answer state'
IsRefusedFor state one state' JournalFull =
    (IsNothing state one state' × (refusal_of state one.action ≡ Some JournalFull)) ⊎ IsCutShort state one state'
IsRefusedFor state one state' Memory = IsNothing state one state' × (refusal_of state one.action ≡ None)
IsRefusedFor state one state' BadSize = ⊥
IsRefusedFor state one state' (BadLine line) = ⊥

abbrev pub IsDoneBy : Option ControlFault → ControllerState → CommandDone → ControllerState → Type 0
IsDoneBy None state one state' = IsFullyDone state one state'
IsDoneBy (Some fault) state one state' = IsRefusedFor state one state' fault

-- the command did this in this state and left that one
pub record IsCommandDone (state : ControllerState) (one : CommandDone) (state' : ControllerState) : Type 0 where
  pub did : IsDoneBy one.fault state one state'
  -- what refuses it before anything is asked is its fault
  pub first : (fault : ControlFault) → refusal_of state one.action ≡ Some fault → one.fault ≡ Some fault

-- command after command
abbrev pub AreDone : ControllerState → List CommandDone → ControllerState → Type 0
AreDone state [] state' = state ≡ state'
AreDone state (one ∷ later) state' = (middle : ControllerState) × IsCommandDone state one middle × AreDone middle later state'

-- ---- the account of a script

-- what was noted of a command: its action is that of the script's command, and the fault is its
pub record IsNotedOf (script : List Command) (noted : Applied) (one : CommandDone) : Type 0 where
  pub command : Command
  pub known : slice_get script noted.command ≡ Some command
  pub action : one.action ≡ command.action
  pub fault : one.fault ≡ noted.fault

abbrev pub AreNotedOf : List Command → List Applied → List CommandDone → Type 0
AreNotedOf script [] [] = Unit {0}
AreNotedOf script (noted ∷ more) (one ∷ later) = IsNotedOf script noted one × AreNotedOf script more later
AreNotedOf script [] (one ∷ later) = ⊥
AreNotedOf script (noted ∷ more) [] = ⊥

-- the updates that the commands made, in their order
abbrev pub made_in : List CommandDone → List AnsweredUpdate
made_in done = flat_map (λ (one : CommandDone). one.made) done

-- the update is one of a map that there is, and the journal of its shard is full for it at the end of what the pass has seen
pub record IsShardFullForUpdate (plan : ℕ → ShardPlan) (maps : List MapDef) (options : Options) (pass : PassView) (update : UpdateBytes) : Type 0 where
  pub of_map : IsTrue (is_some (slice_get maps update.map))
  pub full :
      IsJournalFull (plan (shard_of maps options update)) (seen_at pass (shard_of maps options update))
      (controller_update (shard_of maps options update) update)

-- Updates one after the other lead from one state of a port to another: each adds its entry to the history of the shard of its key, and
-- what the controller has seen of each shard grows.
pub record IsMoved (before after : UpdatesView) (made : List AnsweredUpdate) : Type 0 where
  pub maps : after.maps ≡ before.maps
  pub options : after.options ≡ before.options
  pub who : after.pass.who ≡ Controller
  pub own : (number : ℕ) → own_at after.pass number ≡ with_updates before.maps before.options number made (own_at before.pass number)
  pub grows : (number : ℕ) → BeginsWith (seen_at after.pass number) (seen_at before.pass number)

-- a command that was applied, refused for this fault if for one: what it did to the controller and to the shards
pub record HasEffect (plan : ℕ → ShardPlan) (state : ControllerState) (action : Action) (fault : Option ControlFault)
    (state' : ControllerState) (before after : UpdatesView) : Type 0 where
  pub one : CommandDone
  pub action_is : one.action ≡ action
  pub fault_is : one.fault ≡ fault
  pub done : IsCommandDone state one state'
  pub moved : IsMoved before after one.made
  pub full : IfSome one.stopped (IsShardFullForUpdate plan before.maps before.options after.pass)
  -- over all shards its updates come one after the other, and the look at a full journal last
  pub did : after.pass.deeds ≡ reverse (command_deeds before.maps before.options one) ++ before.pass.deeds

-- the controller's pass has made these updates, in order, and nothing else
pub record HasSet (maps : List MapDef) (options : Options) (updates : List MapUpdate) (pass : PassView) : Type 0 where
  pub own : (number : ℕ) → own_at pass number ≡ with_updates maps options number (all_set updates) []
  pub did : pass.deeds ≡ reverse (made_deeds maps options (all_set updates))

-- The commands noted are those of the script, each did what it says in the state that the one before it left; the controller's own entries
-- in the history of each shard are its first updates and behind them those of the commands to it, in order; where one met a full journal,
-- that journal is full for it; and over all shards its deeds are the first updates and then those of the commands, in order.
pub record IsScriptAccount (plan : ℕ → ShardPlan) (maps : List MapDef) (options : Options) (updates : List MapUpdate)
    (script : List Command) (size : ℕ) (noted : List Applied) (state : ControllerState) (pass : PassView) : Type 0 where
  pub done : List CommandDone
  pub are_noted : AreNotedOf script noted done
  pub are_done : AreDone (opened_controller size) done state
  pub own : (number : ℕ) → own_at pass number ≡ with_updates maps options number (all_set updates ++ made_in done) []
  pub full : AllByRecursion (λ (one : CommandDone). IfSome one.stopped (IsShardFullForUpdate plan maps options pass)) done
  pub did : pass.deeds ≡ reverse (made_deeds maps options (all_set updates) ++ commands_deeds maps options done)

-- the same, of commands of which the first did this
pub record IsScriptAccountBehind (plan : ℕ → ShardPlan) (maps : List MapDef) (options : Options) (updates : List MapUpdate)
    (script : List Command) (size : ℕ) (noted : List Applied) (state : ControllerState) (pass : PassView) (first : List CommandDone) : Type 0
  where
    pub account : IsScriptAccount plan maps options updates script size noted state pass
    pub later : List CommandDone
    pub goes_on : account.done ≡ first ++ later

-- ---- the actor

pub record CommanderView : Type 0 where
  -- what was made before the first command
  pub updates : List MapUpdate
  pub script : List Command
  -- what came of the commands that were applied, in order
  pub noted : List Applied
  pub controller : ControllerState
  pub port : UpdatesView

-- the same script over the same maps, for a table of the same size
abbrev pub StaysOf : CommanderView → CommanderView → Type 0
StaysOf before after =
    (after.script ≡ before.script) × (after.port.maps ≡ before.port.maps) × (after.port.options ≡ before.port.options) ×
    (after.controller.size ≡ before.controller.size) × (after.updates ≡ before.updates)

-- what was noted is an account of the script
abbrev pub HasAccount : (ℕ → ShardPlan) → CommanderView → Type 0
HasAccount plan view =
    IsScriptAccount plan view.port.maps view.port.options view.updates view.script view.controller.size view.noted
    view.controller view.port.pass

-- of which the first commands did this
abbrev pub HasAccountBehind : (ℕ → ShardPlan) → CommanderView → List CommandDone → Type 0
HasAccountBehind plan view first =
    IsScriptAccountBehind plan view.port.maps view.port.options view.updates view.script view.controller.size view.noted
    view.controller view.port.pass first

-- what is so of every account of the script so far
abbrev pub OfEachAccount : (ℕ → ShardPlan) → CommanderView → (List CommandDone → Type 0) → Type 0
OfEachAccount plan view holds = (account : HasAccount plan view) → holds account.done

-- the maps are those of steering for the controller's table, or there is no command
abbrev pub ServesScript : List MapDef → ℕ → List Command → Type 0
ServesScript maps size script = (script ≡ []) ⊎ AreSteeringMaps size maps

pub record IsCommander (plan : ℕ → ShardPlan) (updates : List MapUpdate) (script : List Command) (noted : List Applied)
    (state : ControllerState) (port : UpdatesView) : Type 0 where
  pub account : IsScriptAccount plan port.maps port.options updates script state.size noted state port.pass
  pub serves : ServesScript port.maps state.size script
  pub who : port.pass.who ≡ Controller
