-- A replay on one thread: turn after turn, each from the state that the one before it left. So what a turn finds in the maps is what the
-- turns before it left there, and the journals have the entries of the turns in their order.
use Rattle.std.specs.Prelude.{◌≡◌, ◌⊎◌, ℕ, zero, suc, ℤ, Bool, true, false, List, [], ◌∷◌, ◌++◌, length, reverse}
use Rattle.std.specs.Prelude.{Option, Some, None, slice_get, slice_set}
use Rattle.ebpf_decode.specs.declared.map.MapDef.{MapDef}
use Rattle.wire.specs.FrameView.{FrameView}
use Rattle.wire.specs.declared.records.Sent.{Sent}
use Rattle.semantics.specs.declared.call.Caller.TheVariants.{Controller, Reclaimer}
use Rattle.semantics.specs.declared.call.Reply.TheVariants.{Answer, Freed}
use Rattle.semantics.specs.declared.options.Options.{Options}
use Rattle.semantics.specs.declared.verdict.Verdict.{Verdict}
use Rattle.semantics.specs.declared.linux.UpdateFlags.TheVariants.{Any}
use Rattle.semantics.specs.Linux.{flags_number}
use Rattle.semantics.specs.History.{meets, IsLegalJournal}
use Rattle.semantics.specs.MachineState.{MachineState}
use Rattle.semantics.specs.Program.{Program}
use Rattle.semantics.specs.SequentialShard.{update_answer}
use Rattle.semantics.specs.ShardPlan.{AreOptions}
use Rattle.journals.specs.JournalsView.{AreImageMaps}
use Rattle.machine.specs.declared.exit.Stop.{Stop}
use Rattle.machine.specs.Running.{Ends, StopsSo}
use Rattle.shard_core.specs.JournaledShard.{JournaledShard, state_of}
use Rattle.shard_core.specs.Calls.{IsFullFor, shard_with_call, shard_update_call, reclaim_call}
use Rattle.shards.specs.NewShards.{shard_at}
use Rattle.shard_port.specs.Asking.{all_left}
use Rattle.shard_port.specs.PortView.{PortView, ServesMaps, IsGivenBy, IsRefusedBy}
use Rattle.control.specs.declared.command.Action.{Action}
use Rattle.control.specs.declared.command.Command.{Command}
use Rattle.control.specs.declared.fault.ControlFault.{ControlFault}
use Rattle.control.specs.MapUpdates.{UpdateBytes}
use Rattle.control.specs.Controlling.{ControllerState, IsCarriedOut, IsLeft, refusal_of, first_updates, up_after}
use Rattle.actors.specs.declared.account.Counts.{Counts}
use Rattle.actors.specs.declared.outcome.Applied.{Applied}
use Rattle.actors.specs.declared.outcome.ToldEnd.{ToldEnd}
use Rattle.actors.specs.declared.runner.RunEnd.{RunEnd}
use Rattle.actors.specs.declared.runner.RunEnd.TheVariants.{Stopped}
use Rattle.actors.specs.Shares.{is_short, worker_of_frame, all_captured}
use Rattle.actors.specs.Accounts.{counted, sent_by, record_end}
use Rattle.semantics.specs.Replay.{is_keyed}
use Rattle.actors.specs.RunsOverShards.{start_of, IsTold, steps_in}
use Rattle.actors.specs.SharedUpdates.{shard_of}
use Rattle.replay.specs.Turns.{Turn, TheCommand, TheRecord, TheRound}

-- ---- a run

abbrev pub worker_port : Program → ℕ → List JournaledShard → PortView
worker_port program worker shards =
    record { served = record { maps = program.maps; shards = program.shards }; worker = worker; shards = shards }

-- the run came to its end: its worker has called the shards one after the other, and has then left those that it had entered
pub record EndsInTurn (program : Program) (start : MachineState) (worker : ℕ) (before after : List JournaledShard) (verdict : Verdict)
    (steps : ℕ) (frame : FrameView) : Type 0 where
  pub last : PortView
  pub ends : Ends IsGivenBy program start (worker_port program worker before) last verdict steps frame
  pub left : after ≡ all_left last.worker last.shards

-- the same of a run that a full journal stopped
pub record StopsInTurn (program : Program) (start : MachineState) (worker : ℕ) (before after : List JournaledShard) (frame : FrameView)
    (stop : Stop) : Type 0 where
  pub last : PortView
  pub stops : StopsSo IsGivenBy IsRefusedBy program start (worker_port program worker before) last frame stop
  pub left : after ≡ all_left last.worker last.shards

pub record IsExitInTurn (program : Program) (captured : Sent) (worker : ℕ) (before : List JournaledShard) (end : RunEnd)
    (after : List JournaledShard) : Type 0 where
  pub verdict : Verdict
  pub steps : ℕ
  pub frame : FrameView
  pub run : EndsInTurn program (start_of captured worker) worker before after verdict steps frame
  pub told : IsTold captured verdict frame end
  pub counted : steps_in end ≡ Some steps

pub record IsStopInTurn (program : Program) (captured : Sent) (worker : ℕ) (before after : List JournaledShard) : Type 0 where
  pub frame : FrameView
  pub stop : Stop
  pub run : StopsInTurn program (start_of captured worker) worker before after frame stop

abbrev pub IsRunInTurn : Program → Sent → ℕ → List JournaledShard → RunEnd → List JournaledShard → Type 0
IsRunInTurn program captured worker before Stopped after = IsStopInTurn program captured worker before after
IsRunInTurn program captured worker before end after = IsExitInTurn program captured worker before end after

-- a record that is too short is not run, and any other one by the worker of its flow
pub record IsPassedOver (captured : Sent) (before after : List JournaledShard) : Type 0 where
  pub short : is_short captured.bytes.items ≡ true
  pub nothing : after ≡ before

pub record IsRunOfRecord (program : Program) (workers : ℕ) (captured : Sent) (before : List JournaledShard) (end : RunEnd)
    (after : List JournaledShard) : Type 0
  where
    pub long : is_short captured.bytes.items ≡ false
    pub run : IsRunInTurn program captured (worker_of_frame captured.bytes.items workers) before end after

abbrev pub IsHandledInTurn : Program → ℕ → Sent → List JournaledShard → Option RunEnd → List JournaledShard → Type 0
IsHandledInTurn program workers captured before None after = IsPassedOver captured before after
IsHandledInTurn program workers captured before (Some end) after = IsRunOfRecord program workers captured before end after

-- ---- a command

-- the maps, the options, and the shards that were opened for them
pub record TurnMaps : Type 0 where
  pub maps : List MapDef
  pub options : Options
  pub shards : List JournaledShard

-- the shards are those of these maps, whatever was done on them
pub record ServesTurns (maps : List MapDef) (options : Options) (shards : List JournaledShard) : Type 0 where
  pub options_fit : AreOptions maps options
  pub maps_are : AreImageMaps maps
  pub serve : ServesMaps maps options shards

-- the controller may make the update on this shard
abbrev pub may_update_at : Option JournaledShard → List ℕ → List ℕ → Bool
may_update_at (Some one) key value = meets one.plan (reverse one.journal) Controller (shard_update_call one key value (flags_number Any))
may_update_at None key value = false

-- the shard of this number took the update, or gave another answer, as the one-thread map does; either way it has the entry
pub record IsUpdatedAt (before : List JournaledShard) (number : ℕ) (key value : List ℕ) (answer : ℤ)
    (after : List JournaledShard) : Type 0 where
  pub one : JournaledShard
  pub known : slice_get before number ≡ Some one
  pub answered : answer ≡ update_answer one.plan (state_of one) key (flags_number Any)
  pub legal : IsLegalJournal one.plan (shard_with_call one Controller (shard_update_call one key value (flags_number Any)) (Answer answer)).journal
  pub written : after ≡ slice_set before number (shard_with_call one Controller (shard_update_call one key value (flags_number Any)) (Answer answer))

pub record IsFullAt (before : List JournaledShard) (number : ℕ) (key value : List ℕ) : Type 0 where
  pub one : JournaledShard
  pub known : slice_get before number ≡ Some one
  pub full : IsFullFor one (shard_update_call one key value (flags_number Any))

abbrev pub shard_in_turn : TurnMaps → UpdateBytes → ℕ
shard_in_turn before update = shard_of before.maps before.options update

-- the update is one Update of the shard that its key has, with this answer, and nothing else
pub record IsUpdatedInTurn (before : TurnMaps) (update : UpdateBytes) (answer : ℤ) (after : TurnMaps) : Type 0 where
  pub at : IsUpdatedAt before.shards (shard_in_turn before update) update.key update.value answer after.shards
  pub of_map : ∥ slice_get before.maps update.map ≡ Some at.one.plan.definition ∥₁
  pub same_maps : after.maps ≡ before.maps
  pub same_options : after.options ≡ before.options

-- the journal of the shard that its key has is full for it, and nothing is changed
pub record IsTurnedAwayInTurn (before : TurnMaps) (update : UpdateBytes) (after : TurnMaps) : Type 0 where
  pub at : IsFullAt before.shards (shard_in_turn before update) update.key update.value
  pub of_map : ∥ slice_get before.maps update.map ≡ Some at.one.plan.definition ∥₁
  pub nothing : after ≡ before

-- the command was applied, and refused for this fault, if for one
abbrev pub IsAppliedInTurn : Option ControlFault → ControllerState → TurnMaps → Action → ControllerState → TurnMaps → Type 0
IsAppliedInTurn None state before action state' after =
    IsCarriedOut IsUpdatedInTurn state before (first_updates state.up action) (up_after state.up action) state' after
IsAppliedInTurn (Some fault) state before action state' after =
    IsLeft IsUpdatedInTurn IsTurnedAwayInTurn state before action state' after fault

-- ---- a round

-- one Reclaim was served, or the journal was full for it
abbrev pub IsAskedInTurn : JournaledShard → JournaledShard → Type 0
IsAskedInTurn one new =
    ((freed : ℕ) × (new ≡ shard_with_call one Reclaimer (reclaim_call one) (Freed freed)) × IsLegalJournal one.plan new.journal)
    ⊎ (IsFullFor one (reclaim_call one) × (new ≡ one))

-- the shard of this number was asked
pub record IsReclaimedInTurn (number : ℕ) (before after : List JournaledShard) : Type 0 where
  pub one : JournaledShard
  pub new : JournaledShard
  pub known : slice_get before number ≡ Some one
  pub asked : IsAskedInTurn one new
  pub written : after ≡ slice_set before number new

-- a shard of an array is passed over
abbrev pub IsPartOfRound : Bool → ℕ → List JournaledShard → List JournaledShard → Type 0
IsPartOfRound true number before after = IsReclaimedInTurn number before after
IsPartOfRound false number before after = after ≡ before

-- the first N shards, the lowest number first
abbrev pub IsRoundTo : ℕ → List JournaledShard → List JournaledShard → Type 0
IsRoundTo zero before after = after ≡ before
IsRoundTo (suc number) before after =
    (middle : List JournaledShard) × IsRoundTo number before middle
    × IsPartOfRound (is_keyed (shard_at middle number).plan.definition.kind) number middle after

-- ---- turns

-- the state of a replay between two turns: the maps with what was done there, the controller, what came of the commands so far, the counts,
-- what was sent, and what became of each record so far
pub record TurnState : Type 0 where
  pub all : TurnMaps
  pub controller : ControllerState
  pub noted : List Applied
  pub counts : Counts
  pub sent : List Sent
  pub ends : List ToldEnd

-- the maps and the options are the same, and the controller's table has the same size
pub record IsSameSetting (before after : TurnState) : Type 0 where
  pub maps : after.all.maps ≡ before.all.maps
  pub options : after.all.options ≡ before.all.options
  pub size : after.controller.size ≡ before.controller.size

-- the record of this number: it is counted, sent if its run says so, and noted with its worker and how its run ended
pub record IsRecordTurn (program : Program) (records : List Sent) (workers number : ℕ) (before after : TurnState) : Type 0 where
  pub captured : Sent
  pub known : slice_get records number ≡ Some captured
  pub end : Option RunEnd
  pub handled : IsHandledInTurn program workers captured before.all.shards end after.all.shards
  pub maps : after.all.maps ≡ before.all.maps
  pub options : after.all.options ≡ before.all.options
  pub controller : after.controller ≡ before.controller
  pub noted : after.noted ≡ before.noted
  pub counts : after.counts ≡ counted before.counts end
  pub sent : all_captured after.sent ≡ all_captured before.sent ++ sent_by end
  pub ends : after.ends ≡ before.ends ++ record_end (worker_of_frame captured.bytes.items workers) end ∷ []

-- the script's command of this number, with the fault for which it was refused, if for one
pub record IsCommandTurn (script : List Command) (number : ℕ) (before after : TurnState) : Type 0 where
  pub command : Command
  pub known : slice_get script number ≡ Some command
  pub fault : Option ControlFault
  pub did : IsAppliedInTurn fault before.controller before.all command.action after.controller after.all
  -- what refuses it before anything is asked is its fault
  pub first : (other : ControlFault) → refusal_of before.controller command.action ≡ Some other → fault ≡ Some other
  pub noted : after.noted ≡ before.noted ++ record { command = number; fault = fault } ∷ []
  pub counts : after.counts ≡ before.counts
  pub sent : after.sent ≡ before.sent
  pub ends : after.ends ≡ before.ends

pub record IsRoundTurn (before after : TurnState) : Type 0 where
  pub round : IsRoundTo (length before.all.shards) before.all.shards after.all.shards
  pub maps : after.all.maps ≡ before.all.maps
  pub options : after.all.options ≡ before.all.options
  pub controller : after.controller ≡ before.controller
  pub noted : after.noted ≡ before.noted
  pub counts : after.counts ≡ before.counts
  pub sent : after.sent ≡ before.sent
  pub ends : after.ends ≡ before.ends

abbrev pub IsTurn : Program → List Command → List Sent → ℕ → Turn → TurnState → TurnState → Type 0
IsTurn program script records workers (TheRecord number) before after = IsRecordTurn program records workers number before after
IsTurn program script records workers (TheCommand number) before after = IsCommandTurn script number before after
IsTurn program script records workers TheRound before after = IsRoundTurn before after

-- turn after turn, each from the state that the one before it left
abbrev pub AreTurns : Program → List Command → List Sent → ℕ → List Turn → TurnState → TurnState → Type 0
AreTurns program script records workers [] before after = after ≡ before
AreTurns program script records workers (turn ∷ later) before after =
    (middle : TurnState) × IsTurn program script records workers turn before middle ×
    AreTurns program script records workers later middle after
