-- One run of a worker over shards that it is outside of: what the shards' journals then have more.
use Rattle.std.specs.Prelude.{◌≡◌, ◌⊎◌, ℕ, ◌<◌, ◌≤◌, List, [], ◌∷◌, ◌++◌, length, reverse, IsFalse}
use Rattle.ebpf_decode.specs.InstructionEncoding.{total_slots}
use Rattle.wire.specs.FrameView.{FrameView}
use Rattle.semantics.specs.declared.call.Call.{Call}
use Rattle.semantics.specs.declared.call.Entry.{Entry}
use Rattle.semantics.specs.declared.verdict.Verdict.{Verdict}
use Rattle.semantics.specs.MachineState.{MachineState}
use Rattle.semantics.specs.Program.{Program}
use Rattle.semantics.specs.History.{shard_of_call, IsJournalFull}
use Rattle.semantics.specs.RunTrace.{HasExited, Waits, whole_trace}
use Rattle.shard_core.specs.JournaledShard.{JournaledShard}
use Rattle.map_port.specs.Exchanges.{Exchange, calls_in, replies_in}
use Rattle.machine.specs.declared.exit.Stop.{Stop}
use Rattle.machine.specs.declared.exit.Stop.TheVariants.{JournalFull}
use Rattle.shard_port.specs.Asking.{is_in, can_enter, entered, enter_by, leave_by}
use Rattle.shard_port.specs.Sessions.{exchange_entries, behind_enter, with_entries}
use Rattle.shard_port.specs.PassSessions.{session_at, AreCallsWithin}
use Rattle.runs.specs.FrameRuns.{AreFormed}
use Rattle.shards.specs.NewShards.{shard_at}

-- ---- a run to its end: what the program asked and what it was answered, and what that came to

pub record HasEnded (program : Program) (start : MachineState) (exchanges : List Exchange) (verdict : Verdict) (steps : ℕ)
    (frame : FrameView) : Type 0
  where
    pub last : MachineState
    pub trace : whole_trace program start (replies_in exchanges) ≡ record { calls = calls_in exchanges; stand = HasExited verdict last }
    pub formed : AreFormed program exchanges
    pub counted : steps ≡ last.steps
    pub bounded : steps ≤ total_slots program.code
    pub sent : frame ≡ last.frame

-- ---- a run that was refused a call: what it asked before, and the state in which it waits for this reply

pub record HasWaited (program : Program) (start : MachineState) (exchanges : List Exchange) (refused : Call)
    (frame : FrameView) : Type 0 where
  pub waiting : MachineState
  pub trace :
      whole_trace program start (replies_in exchanges) ≡ record { calls = calls_in exchanges ++ refused ∷ []; stand = Waits waiting }
  pub formed : AreFormed program exchanges
  pub kept_back : frame ≡ waiting.frame

-- the worker entered the shard for this call alone, which was refused there
pub record IsVisit (worker number : ℕ) (exchanges : List Exchange) (refused : Call) (written : List Entry) : Type 0 where
  pub own_shard : shard_of_call refused ≡ number
  pub first_call : exchange_entries worker number exchanges ≡ []
  pub visit : written ≡ enter_by worker number ∷ leave_by worker number ∷ []

-- what the run's worker wrote on the shard of a number: its session, or that visit
abbrev pub IsCutSession : ℕ → ℕ → List Exchange → Call → List Entry → Type 0
IsCutSession worker number exchanges refused written =
    (written ≡ session_at worker number exchanges) ⊎ IsVisit worker number exchanges refused written

-- the journal had no room for the worker's Enter, and it is as it was
pub record IsFullForEnter (worker : ℕ) (here : JournaledShard) (journal : List Entry) : Type 0 where
  pub full : IsFalse (can_enter worker here)
  pub nothing : journal ≡ here.journal

-- the worker had entered, and the journal had no room for its call; it has the worker's Leave behind that
pub record IsFullForCall (worker number : ℕ) (here : JournaledShard) (refused : Call) (journal : List Entry) : Type 0 where
  pub full : IsJournalFull here.plan (reverse (entered worker here).journal) refused
  pub leaves : journal ≡ (entered worker here).journal ++ leave_by worker number ∷ []

-- after what the run had done there, the journal was full for the Enter before the call, or for the call
abbrev pub IsFullAfter : ℕ → ℕ → List Exchange → Call → JournaledShard → List Entry → Type 0
IsFullAfter worker number exchanges refused before journal =
    let here : JournaledShard = with_entries before (behind_enter worker number (exchange_entries worker number exchanges)) in
    IsFullForEnter worker here journal ⊎ IsFullForCall worker number here refused journal

-- ---- over shards

-- the shard of this number has these entries more
abbrev pub HasMore : List JournaledShard → List JournaledShard → ℕ → List Entry → Type 0
HasMore before after number entries = shard_at after number ≡ with_entries (shard_at before number) entries

pub record HasRunOver (program : Program) (start : MachineState) (worker : ℕ) (before after : List JournaledShard) (verdict : Verdict)
    (steps : ℕ)
    (frame : FrameView) : Type 0 where
  pub exchanges : List Exchange
  pub ended : HasEnded program start exchanges verdict steps frame
  pub within : AreCallsWithin (length before) exchanges
  pub count : length after ≡ length before
  pub written : (number : ℕ) → number < length before → HasMore before after number (session_at worker number exchanges)

pub record WasRefusedOver (program : Program) (start : MachineState) (worker : ℕ) (before after : List JournaledShard)
    (frame : FrameView) (shard : ℕ) :
    Type 0 where
  pub exchanges : List Exchange
  pub refused : Call
  pub named : shard ≡ shard_of_call refused
  pub waited : HasWaited program start exchanges refused frame
  pub within : AreCallsWithin (length before) exchanges
  pub refused_within : shard < length before
  pub count : length after ≡ length before
  pub written : (number : ℕ) → number < length before →
      (entries : List Entry) × HasMore before after number entries × IsCutSession worker number exchanges refused entries
  pub full : IsFullAfter worker shard exchanges refused (shard_at before shard) (shard_at after shard).journal

abbrev pub HasStoppedOver : Program → MachineState → ℕ → List JournaledShard → List JournaledShard → FrameView → Stop → Type 0
HasStoppedOver program start worker before after frame (JournalFull shard) = WasRefusedOver program start worker before after frame shard

-- the worker is outside each of the shards, and these have their numbers
pub record IsOutsideNumbered (worker : ℕ) (shards : List JournaledShard) : Type 0 where
  pub outside : (number : ℕ) → number < length shards → IsFalse (is_in worker (shard_at shards number))
  pub numbered : (number : ℕ) → number < length shards → (shard_at shards number).plan.number ≡ number
