-- One run over maps of its own, before which the controller may set values: what the journals hold after it, which is these updates and
-- that run and nothing else.
use Rattle.std.specs.Prelude.{◌≡◌, ℕ, ◌*◌, ◌<◌, List, ◌++◌, length, Some}
use Rattle.ebpf_decode.specs.declared.map.MapDef.{MapDef}
use Rattle.wire.specs.FrameView.{FrameView}
use Rattle.map_updates.specs.declared.update.MapUpdate.{MapUpdate}
use Rattle.semantics.specs.declared.call.Call.{Call}
use Rattle.semantics.specs.declared.call.Entry.{Entry}
use Rattle.semantics.specs.declared.options.Options.{Options}
use Rattle.semantics.specs.declared.plan.ShardPlan.{ShardPlan}
use Rattle.semantics.specs.declared.verdict.Verdict.{Verdict}
use Rattle.semantics.specs.History.{shard_of_call, IsLegalJournal}
use Rattle.semantics.specs.MachineState.{MachineState}
use Rattle.semantics.specs.Program.{Program}
use Rattle.semantics.specs.ShardPlan.{plan_at}
use Rattle.journals.specs.JournalsView.{JournalsView, entries_at}
use Rattle.map_port.specs.Exchanges.{Exchange}
use Rattle.machine.specs.declared.exit.Stop.{Stop}
use Rattle.machine.specs.declared.exit.Stop.TheVariants.{JournalFull}
use Rattle.shard_port.specs.PassSessions.{session_at, AreCallsWithin}
use Rattle.runs.specs.ShardRuns.{HasEnded, HasWaited, IsCutSession, IsFullAfter}
use Rattle.runs.specs.Updates.{served_by, updates_at, updated_shard, IsRefusedUpdate, IsFullForUpdate}
use Rattle.runs.specs.declared.fault.RunFault.{RunFault}
use Rattle.runs.specs.declared.fault.RunFault.TheVariants.{Open, Refused, Full}

-- the journal is legal for the shard of this number
pub record IsLegalAt (maps : List MapDef) (options : Options) (number : ℕ) (entries : List Entry) : Type 0 where
  pub plan : ShardPlan
  pub planned : plan_at maps options number ≡ Some plan
  pub legal : IsLegalJournal plan entries

-- one legal journal for each shard that is opened for these maps
pub record AreLegalJournalsOf (maps : List MapDef) (options : Options) (journals : JournalsView) : Type 0 where
  pub maps_are : journals.maps ≡ maps
  pub options_are : journals.options ≡ options
  pub count : length journals.shards ≡ length maps * options.shards
  pub legal : (number : ℕ) → number < length journals.shards → IsLegalAt maps options number (entries_at journals number)

-- Before the run each update was made, in order, by the controller; then the worker's run came to its end. Each journal has the
-- controller's entries, behind them the worker's session, and nothing else: so the run's replies are those of maps with these values.
pub record HasRunAlone (program : Program) (start : MachineState) (options : Options) (worker : ℕ) (updates : List MapUpdate)
    (verdict : Verdict)
    (steps : ℕ) (frame : FrameView) (journals : JournalsView) : Type 0 where
  pub journals_are : AreLegalJournalsOf program.maps options journals
  pub exchanges : List Exchange
  pub ended : HasEnded program start exchanges verdict steps frame
  pub within : AreCallsWithin (length journals.shards) exchanges
  pub written :
      (number : ℕ) → number < length journals.shards → entries_at journals number
      ≡ updates_at (served_by program.maps options) number updates ++ session_at worker number exchanges

-- the journal has the controller's entries, and behind them what a run that was stopped wrote
pub record IsCutBehind (before : List Entry) (worker number : ℕ) (exchanges : List Exchange) (refused : Call)
    (journal : List Entry) : Type 0 where
  pub own : List Entry
  pub session : IsCutSession worker number exchanges refused own
  pub both : journal ≡ before ++ own

-- the run was stopped, since a journal was full for a call or for the Enter before it; the journals have what it wrote by then
pub record WasRefusedAlone (program : Program) (start : MachineState) (options : Options) (worker : ℕ) (updates : List MapUpdate)
    (frame : FrameView)
    (journals : JournalsView) (shard : ℕ) : Type 0 where
  pub journals_are : AreLegalJournalsOf program.maps options journals
  pub exchanges : List Exchange
  pub refused : Call
  pub named : shard ≡ shard_of_call refused
  pub waited : HasWaited program start exchanges refused frame
  pub within : AreCallsWithin (length journals.shards) exchanges
  pub refused_within : shard < length journals.shards
  pub written :
      (number : ℕ) → number < length journals.shards →
      IsCutBehind (updates_at (served_by program.maps options) number updates) worker number exchanges refused (entries_at journals number)
  pub plan : ShardPlan
  pub planned : plan_at program.maps options shard ≡ Some plan
  pub full :
      IsFullAfter worker shard exchanges refused (updated_shard (served_by program.maps options) shard updates plan)
      (entries_at journals shard)

abbrev pub HasStoppedAlone : Program → MachineState → Options → ℕ → List MapUpdate → FrameView → Stop → JournalsView → Type 0
HasStoppedAlone program start options worker updates frame (JournalFull shard) journals =
    WasRefusedAlone program start options worker updates frame journals shard

-- why no run was made
abbrev pub IsWhyNoRun : List MapDef → Options → List MapUpdate → RunFault → Type 0
IsWhyNoRun maps options updates (Open fault) = Unit {0}
IsWhyNoRun maps options updates (Refused place answer) = IsRefusedUpdate maps options updates place answer
IsWhyNoRun maps options updates (Full place) = IsFullForUpdate maps options updates place
