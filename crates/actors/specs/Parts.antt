-- What the controller and the reclaimer of a replay hand back.
use Rattle.std.specs.Prelude.{◌≡◌, ◌⊎◌, IsFalse, ◌<◌, ◌≤◌, ◌+◌, ◌/◌, ◌++◌, ℕ, List, [], length, map, reverse, IfSome, is_some}
use Rattle.std.specs.List.{AllByRecursion, filter}
use Rattle.ebpf_decode.specs.declared.map.MapDef.{MapDef}
use Rattle.semantics.specs.declared.call.Caller.TheVariants.{Controller, Reclaimer}
use Rattle.semantics.specs.declared.options.Options.{Options}
use Rattle.semantics.specs.declared.plan.ShardPlan.{ShardPlan}
use Rattle.semantics.specs.CallerLaws.{own_entries}
use Rattle.semantics.specs.ShardPlan.{are_served_options}
use Rattle.semantics.specs.History.{IsJournalFull}
use Rattle.journals.specs.JournalsView.{JournalsView, entries_at}
use Rattle.shards.specs.declared.deeds.Deed.{Deed}
use Rattle.shards.specs.declared.deeds.OrderPart.TheVariants.{ByCaller}
use Rattle.shards.specs.Deeds.{deeds_of}
use Rattle.shards.specs.Passes.{PassView}
use Rattle.rx_queues.specs.declared.job.Job.{Job}
use Rattle.maglev.specs.RingSize.{IsRingSize}
use Rattle.map_updates.specs.declared.update.MapUpdate.{MapUpdate}
use Rattle.conntrack.specs.SteeringMaps.{AreSteeringMaps}
use Rattle.control.specs.declared.command.Command.{Command}
use Rattle.control.specs.Controlling.{ControllerState, opened_controller}
use Rattle.control.specs.MapUpdates.{UpdateBytes}
use Rattle.actors.specs.declared.outcome.Applied.{Applied}
use Rattle.actors.specs.SharedUpdates.{shard_of, controller_update}
use Rattle.actors.specs.Commands.{CommanderView, CommandDone, AreNotedOf, AreDone, IsScriptAccountBehind, HasAccount, ServesScript}
use Rattle.actors.specs.Commands.{all_set, made_in, with_updates, made_deeds, commands_deeds}
use Rattle.actors.specs.ActorJobs.{AreCommandsTaken, IsActorAccounted as IsControllersAccount}
use Rattle.actors.specs.Rounds.{IsReclaimedBy, AreRoundsDone}
use Rattle.actors.specs.Actors.{numbers_from, due_to}
use Rattle.semantics.specs.Entries.{NewestFirst}

-- ---- what the controller's thread hands back for its jobs

-- the controller applied the commands of its jobs, each once and in order, and its pass has their entries
pub record HasCommanded (plan : ℕ → ShardPlan) (start : CommanderView) (jobs : List Job) (noted : List Applied)
    (pass : PassView) : Type 0 where
  pub taken : AreCommandsTaken start.noted noted jobs
  pub account : IsControllersAccount plan start noted pass
  pub who : pass.who ≡ Controller

-- ---- the script

-- there are commands, and the maps are those of steering for no lookup table
pub record HasNoTable (maps : List MapDef) (script : List Command) : Type 0 where
  pub some : ¬ (script ≡ [])
  pub none : (size : ℕ) → IsRingSize size → ¬ AreSteeringMaps size maps

-- no shards of these maps are opened with the options, or there are commands and no lookup table for them
abbrev pub AreBadOptions : List MapDef → Options → List Command → Type 0
AreBadOptions maps options script = IsFalse (are_served_options maps options) ⊎ HasNoTable maps script

-- which of the script's commands were applied, in order
abbrev pub numbers_of : List Applied → List ℕ
numbers_of noted = map (λ (one : Applied). one.command) noted

-- a controller of these shards and this script that has made these updates and then applied its first N commands
pub record IsStarted (maps : List MapDef) (options : Options) (updates : List MapUpdate) (script : List Command) (size : ℕ)
    (start : CommanderView) (first : ℕ) : Type 0 where
  pub updates_are : start.updates ≡ updates
  pub script_is : start.script ≡ script
  pub maps_are : start.port.maps ≡ maps
  pub options_are : start.port.options ≡ options
  pub size_is : start.controller.size ≡ size
  pub applied : numbers_of start.noted ≡ numbers_from 0 first
  pub within : first ≤ length script

-- how many commands come before the first record: those at the script's beginning that are at frame 0
abbrev pub first_commands : List Command → ℕ
first_commands script = due_to (map (λ (line : Command). line.frame) script) 0

-- what the controller did before the first record, the newest deed first: the updates, and then these commands
abbrev pub first_deeds : List MapDef → Options → List MapUpdate → List CommandDone → List Deed
first_deeds maps options updates done = reverse (made_deeds maps options (all_set updates) ++ commands_deeds maps options done)

-- the controller has done these deeds: the updates, and the commands before the first record
pub record HasBegunWith (plan : ℕ → ShardPlan) (maps : List MapDef) (options : Options) (updates : List MapUpdate) (script : List Command)
    (start : CommanderView) (deeds : List Deed) : Type 0 where
  pub account : HasAccount plan start
  pub counted : length account.done ≡ first_commands script
  pub deeds_are : deeds ≡ first_deeds maps options updates account.done

-- each command of the script was applied once, in its order, the first of them so; and the pass has the first updates and behind them theirs
pub record IsScriptRun (plan : ℕ → ShardPlan) (maps : List MapDef) (options : Options) (updates : List MapUpdate) (script : List Command)
    (size : ℕ) (first : List CommandDone) (noted : List Applied) (pass : PassView) : Type 0 where
  pub each_once : numbers_of noted ≡ numbers_from 0 (length script)
  pub state : ControllerState
  pub account : IsScriptAccountBehind plan maps options updates script size noted state pass first
  pub who : pass.who ≡ Controller

-- and these deeds are those of the updates and of the commands before the first record
pub record IsScriptRunBehind (plan : ℕ → ShardPlan) (maps : List MapDef) (options : Options) (updates : List MapUpdate)
    (script : List Command) (size : ℕ) (noted : List Applied) (pass : PassView) (deeds : List Deed) : Type 0 where
  pub first : List CommandDone
  pub run : IsScriptRun plan maps options updates script size first noted pass
  pub counted : length first ≡ first_commands script
  pub deeds_are : deeds ≡ first_deeds maps options updates first

-- ---- compared with the journals

-- the commands that were refused
abbrev pub refused_of : List Applied → List Applied
refused_of noted = filter (λ (one : Applied). is_some one.fault) noted

-- the update's shard is one of N, and its journal is full for the update at its end
pub record IsFullInJournal (plan : ℕ → ShardPlan) (maps : List MapDef) (options : Options) (count : ℕ) (journals : JournalsView)
    (update : UpdateBytes) : Type 0 where
  pub within : shard_of maps options update < count
  pub full :
      IsJournalFull (plan (shard_of maps options update)) (reverse (entries_at journals (shard_of maps options update)))
      (controller_update (shard_of maps options update) update)

-- Each command of the script was carried out once, in the script's order, from the state of the controller that the one before it left; those
-- that were refused are these. The controller is for a lookup table of a size that is served, the one that the maps have (without commands any
-- served size does).
pub record AreOfScript (maps : List MapDef) (script : List Command) (refused : List Applied) (done : List CommandDone) : Type 0 where
  pub size : ℕ
  pub size_is_served : IsRingSize size
  pub serves : ServesScript maps size script
  pub noted : List Applied
  pub each_once : numbers_of noted ≡ numbers_from 0 (length script)
  pub are_noted : AreNotedOf script noted done
  pub state : ControllerState
  pub are_done : AreDone (opened_controller size) done state
  pub refused_are : refused ≡ refused_of noted

-- The commands that were carried out are the script's; the controller's entries in each journal are the first updates to that shard, each
-- answered 0, and behind them those of the commands, in order; where one met a full journal, that journal is full for it at its end. In the
-- one order of all deeds those of the controller are the first updates, then the updates of all commands, in order over all shards, each with
-- its answer, and behind those of a command that a full journal stopped the look at that journal.
pub record IsScriptAccounted (plan : ℕ → ShardPlan) (maps : List MapDef) (options : Options) (count : ℕ) (updates : List MapUpdate)
    (script : List Command) (journals : JournalsView) (order : NewestFirst Deed) (refused : List Applied) : Type 0 where
  pub done : List CommandDone
  pub of_script : AreOfScript maps script refused done
  pub own : (number : ℕ) → number < count →
      own_entries Controller (reverse (entries_at journals number)) ≡ with_updates maps options number (all_set updates ++ made_in done) []
  pub full : AllByRecursion (λ (one : CommandDone). IfSome one.stopped (IsFullInJournal plan maps options count journals)) done
  pub did : deeds_of (ByCaller Controller) order ≡ reverse (made_deeds maps options (all_set updates) ++ commands_deeds maps options done)

-- the rounds of a replay: one after every 64 records, and one behind all that the others do
abbrev pub round_count : ℕ → ℕ
round_count records = records / 64 + 1

-- The reclaimer's entries in each journal are those of N rounds, fewer only where the journal is full for another at its end. In the one
-- order of all deeds those of the reclaimer are these rounds, one behind the other, each with one Reclaim of each hash and LRU shard, the
-- lowest number first.
pub record AreRoundsAccounted (plan : ℕ → ShardPlan) (count rounds : ℕ) (journals : JournalsView) (order : NewestFirst Deed) : Type 0 where
  pub each : (number : ℕ) → number < count → IsReclaimedBy (plan number).definition.kind (plan number) number rounds
      (own_entries Reclaimer (reverse (entries_at journals number))) (reverse (entries_at journals number))
  pub did : AreRoundsDone plan count rounds (reverse (deeds_of (ByCaller Reclaimer) order))
