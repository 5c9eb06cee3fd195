-- What the calls of one run return, and what a run over shards comes to.
use Rattle.std.specs.Prelude.{◌≡◌, ◌⊎◌, ℕ, ◌<◌, ◌≤◌, List, [], ◌∷◌, ◌++◌, length, reverse, Some, slice_get, IsFalse}
use Rattle.ebpf_decode.specs.InstructionEncoding.{total_slots}
use Rattle.ebpf_decode.specs.declared.map.MapDef.{MapDef}
use Rattle.wire.specs.FrameView.{FrameView}
use Rattle.semantics.specs.declared.call.Call.{Call}
use Rattle.semantics.specs.declared.options.Options.{Options}
use Rattle.semantics.specs.declared.verdict.Verdict.{Verdict}
use Rattle.semantics.specs.MachineState.{MachineState, initial_state}
use Rattle.semantics.specs.Program.{Program}
use Rattle.semantics.specs.History.{shard_of_call, IsJournalFull, IsLegalJournal}
use Rattle.semantics.specs.RunTrace.{HasExited, Waits, whole_trace}
use Rattle.verifier.specs.Verified.{Verified}
use Rattle.shard_core.specs.JournaledShard.{JournaledShard}
use Rattle.map_port.specs.Exchanges.{Exchange, calls_in, replies_in}
use Rattle.shard_port.specs.Asking.{is_in, can_enter, entered, enter_by, leave_by, all_left}
use Rattle.shard_port.specs.PortView.{ServesMaps}
use Rattle.shard_port.specs.declared.plain.PlainPort.{PlainPort}
use Rattle.shard_port.specs.PlainPorts.{PortGives, PortRefuses}
use Rattle.shard_port.specs.Sessions.{with_entries, behind_enter, session, exchange_entries}
use Rattle.shard_port.specs.PassSessions.{AreCallsWithin}
use Rattle.machine.specs.declared.exit.Stop.{Stop}
use Rattle.machine.specs.declared.exit.Stop.TheVariants.{JournalFull}
use Rattle.machine.specs.declared.moment.Moment.{Moment}
use Rattle.machine.specs.Running.{program_of, Ends, Stops}
use Rattle.runs.specs.FrameRuns.{AreFormed}

-- ---- the shards between runs

-- the worker is inside none of the shards
abbrev pub IsOutside : ℕ → List JournaledShard → Type 0
IsOutside worker shards = (number : ℕ) (shard : JournaledShard) → slice_get shards number ≡ Some shard → IsFalse (is_in worker shard)

-- each shard's journal is one legal history of the one-thread map
abbrev pub AreLegalShards : List JournaledShard → Type 0
AreLegalShards shards = (number : ℕ) (shard : JournaledShard) → slice_get shards number ≡ Some shard → IsLegalJournal shard.plan shard.journal

-- a run of a worker: when it began, on which frame
pub record Start : Type 0 where
  pub worker : ℕ
  pub now : ℕ
  pub frame : FrameView

abbrev pub run_start : Moment → FrameView → Start
run_start moment frame = record { worker = moment.worker; now = moment.now_ns; frame = frame }

abbrev pub state_at : Start → MachineState
state_at start = initial_state start.frame start.worker start.now

-- ---- what the calls of a run ensure: `PlainPort::over` made the port before, `run` left the port after, `finish` left the shards

pub record IsPortOver (maps : List MapDef) (options : Options) (worker : ℕ) (shards : List JournaledShard) (port : PlainPort) : Type 0 where
  pub same_maps : port.image.now.maps ≡ maps
  pub same_shards : port.shards.now ≡ shards
  pub same_options : port.options ≡ options
  pub same_worker : port.worker ≡ worker

pub record IsFinished (options : Options) (port : PlainPort) (shards : List JournaledShard) : Type 0 where
  pub left : shards ≡ all_left port.worker port.shards.now
  pub serve : ServesMaps port.image.now.maps port.options shards

-- a run that ended
pub record RanOver (verified : Verified) (options : Options) (start : Start) (before after : List JournaledShard) (verdict : Verdict)
    (steps : ℕ) (frame : FrameView) : Type 0 where
  pub port : PlainPort
  pub over : IsPortOver verified.maps options start.worker before port
  pub later : PlainPort
  pub ended : Ends PortGives (program_of verified options.shards) (state_at start) port later verdict steps frame
  pub finished : IsFinished options later after

-- a run whose call a shard refused
pub record WasStopped (verified : Verified) (options : Options) (start : Start) (before after : List JournaledShard) (shard : ℕ)
    (frame : FrameView) : Type 0 where
  pub port : PlainPort
  pub over : IsPortOver verified.maps options start.worker before port
  pub later : PlainPort
  pub stopped : Stops PortGives PortRefuses (program_of verified options.shards) (state_at start) port later frame shard
  pub finished : IsFinished options later after

-- ---- what that means

-- each shard's journal has more just what this worker asked of it and was answered, in order, between one Enter and one Leave
abbrev pub AreExchangesWritten : ℕ → List Exchange → List JournaledShard → List JournaledShard → Type 0
AreExchangesWritten worker exchanges before after =
    (number : ℕ) (shard : JournaledShard) → slice_get before number ≡ Some shard →
    slice_get after number ≡ Some (with_entries shard (session worker shard.plan.number (exchange_entries worker number exchanges)))

-- the same, but that the shard of a refused call, if it was the first there, may have an Enter and a Leave with no call between
abbrev pub AreWrittenBut : Call → ℕ → List Exchange → List JournaledShard → List JournaledShard → Type 0
AreWrittenBut call worker exchanges before after =
    (number : ℕ) (shard : JournaledShard) → slice_get before number ≡ Some shard →
    (slice_get after number ≡ Some (with_entries shard (session worker shard.plan.number (exchange_entries worker number exchanges))))
    ⊎ ((shard_of_call call ≡ number) × (exchange_entries worker number exchanges ≡ []) × (slice_get after number ≡ Some
    (with_entries shard (enter_by worker shard.plan.number ∷ leave_by worker shard.plan.number ∷ []))))

-- after what the run had asked of the call's shard, which was this one before the run, the journal had no room for the worker's Enter, or
-- for the call
abbrev pub WasFullForCall : Call → ℕ → List Exchange → JournaledShard → Type 0
WasFullForCall call worker exchanges shard =
    let here : JournaledShard =
    with_entries shard (behind_enter worker shard.plan.number (exchange_entries worker (shard_of_call call) exchanges)) in
    IsFalse (can_enter worker here) ⊎ IsJournalFull here.plan (reverse (entered worker here).journal) call

-- the run is the meaning of its program on replies of their calls' form, each to a call on one of the shards; they are in the journals,
-- which are legal; and it left every shard
pub record IsTheMeaning (program : Program) (start : Start) (before after : List JournaledShard) (verdict : Verdict) (steps : ℕ)
    (frame : FrameView) : Type 0 where
  pub exchanges : List Exchange
  pub last : MachineState
  pub trace :
      whole_trace program (state_at start) (replies_in exchanges) ≡
      record { calls = calls_in exchanges; stand = HasExited verdict last }
  pub formed : AreFormed program exchanges
  pub within : AreCallsWithin (length before) exchanges
  pub counted : steps ≡ last.steps
  pub bounded : steps ≤ total_slots program.code
  pub sent : frame ≡ last.frame
  pub written : AreExchangesWritten start.worker exchanges before after
  pub legal : ∥ AreLegalShards after ∥₁
  pub outside : IsOutside start.worker after

-- the run made the calls of its program up to the refused one, which no journal has, and for which, or for the Enter before it, its
-- shard's journal was full; the frame is that of the state in which it waits for the reply; and it left every shard
pub record IsTheBeginning (program : Program) (start : Start) (before after : List JournaledShard) (shard : ℕ)
    (frame : FrameView) : Type 0 where
  pub exchanges : List Exchange
  pub refused : Call
  pub named : shard ≡ shard_of_call refused
  pub waiting : MachineState
  pub trace :
      whole_trace program (state_at start) (replies_in exchanges) ≡
      record { calls = calls_in exchanges ++ refused ∷ []; stand = Waits waiting }
  pub formed : AreFormed program exchanges
  pub within : AreCallsWithin (length before) exchanges
  pub kept_back : frame ≡ waiting.frame
  pub refused_within : shard < length before
  pub full : (one : JournaledShard) → slice_get before shard ≡ Some one → WasFullForCall refused start.worker exchanges one
  pub written : AreWrittenBut refused start.worker exchanges before after
  pub legal : ∥ AreLegalShards after ∥₁
  pub outside : IsOutside start.worker after

abbrev pub IsStoppedBeginning : Program → Start → List JournaledShard → List JournaledShard → FrameView → Stop → Type 0
IsStoppedBeginning program start before after frame (JournalFull shard) = IsTheBeginning program start before after shard frame
