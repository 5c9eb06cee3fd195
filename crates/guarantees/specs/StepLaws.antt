-- That steps and runs of the system say something: what can come next is listed, and the frame, the moment and the own entries of a run
-- have one outcome.
use Rattle.std.specs.Prelude.{◌≡◌, ◌⊎◌, ℕ, ◌<◌, ◌^◌, List, [], ◌∷◌, ◌++◌, reverse, IsTrue, MatchBool}
use Rattle.semantics.specs.declared.call.Call.{Call}
use Rattle.semantics.specs.declared.call.Call.TheVariants.{Enter}
use Rattle.semantics.specs.declared.call.Reply.{Reply}
use Rattle.semantics.specs.declared.verdict.Verdict.{Verdict}
use Rattle.semantics.specs.MachineState.{MachineState, initial_state}
use Rattle.semantics.specs.History.{shard_of_call}
use Rattle.semantics.specs.RunTrace.{HasExited, trace_of}
use Rattle.semantics.specs.Step.{Step, Continues, CallsMap, Exits, Traps}
use Rattle.semantics.specs.Semantics.{next_step}
use Rattle.semantics.specs.System.{Setting, program_of_setting, WorkerState, Idle, Runs, Leaves, is_entered}
use Rattle.semantics.specs.System.{run_over, without_shard, IsInputFrame, input_frame}
use Rattle.map_port.specs.Exchanges.{Exchange, calls_in, replies_in}
use Rattle.shards.specs.Passes.{PassView, own_at}
use Rattle.shard_port.specs.Asking.{enter_by, asked_entry}
use Rattle.shard_port.specs.PassSessions.{session_at, AreCallsWithin}
use Rattle.runs.specs.FrameRuns.{AreFormed}
use Rattle.guarantees.specs.Steps.{Writes, TurnedAway, Move, begins, does, asks, leave, IsStep}
use Rattle.guarantees.specs.SystemRuns.{IsRunOfSystem}

-- ---- what can come next

-- of an idle worker: it begins a run on a frame
pub record BeginsOne (setting : Setting) (worker : ℕ) (move : Move) (after : WorkerState) : Type 0 where
  pub frame : List ℕ
  pub now : ℕ
  pub told : ℕ
  pub move_is : move ≡ begins worker frame now told
  pub after_is : after ≡ Runs (initial_state (input_frame frame) told now) []
  pub few : worker < setting.options.workers
  pub input : IsInputFrame frame
  pub early : now < 2 ^ 64
  pub low : told < 8

-- of a run whose next instruction calls a shard that it has entered: the call is served, with some reply, or it is refused
pub record GoesOnBy (worker : ℕ) (entered : List ℕ) (call : Call) (next : Reply → MachineState) (move : Move)
    (after : WorkerState) : Type 0 where
  pub reply : Reply
  pub move_is : move ≡ asks worker (Writes (asked_entry worker call reply))
  pub after_is : after ≡ Runs (next reply) entered

abbrev pub IsCallNext : ℕ → List ℕ → Call → (Reply → MachineState) → Move → WorkerState → Type 0
IsCallNext worker entered call next move after =
    GoesOnBy worker entered call next move after ⊎ ((move ≡ asks worker (TurnedAway call)) × (after ≡ run_over entered))

-- that it has not entered: it enters the shard, or its Enter is refused
abbrev pub IsEnterNext : ℕ → MachineState → List ℕ → ℕ → Move → WorkerState → Type 0
IsEnterNext worker state entered shard move after =
    ((move ≡ asks worker (Writes (enter_by worker shard))) × (after ≡ Runs state (shard ∷ entered)))
    ⊎ ((move ≡ asks worker (TurnedAway (Enter shard))) × (after ≡ run_over entered))

-- of any run, by its next instruction
abbrev pub IsNextOf : ℕ → MachineState → List ℕ → Step → Move → WorkerState → Type 0
IsNextOf worker state entered (Continues next) move after = (move ≡ does worker) × (after ≡ Runs next entered)
IsNextOf worker state entered (Exits verdict last) move after = (move ≡ does worker) × (after ≡ run_over entered)
IsNextOf worker state entered (CallsMap call next) move after =
    MatchBool (is_entered (shard_of_call call) entered) (IsCallNext worker entered call next move after)
    (IsEnterNext worker state entered (shard_of_call call) move after)
IsNextOf worker state entered (Traps cause) move after = ⊥

-- of a worker whose run is over: it leaves one of the shards
pub record LeavesOne (worker : ℕ) (entered : List ℕ) (move : Move) (after : WorkerState) : Type 0 where
  pub shard : ℕ
  pub inside : IsTrue (is_entered shard entered)
  pub move_is : move ≡ leave worker shard
  pub after_is : after ≡ run_over (without_shard shard entered)

abbrev pub IsListedNext : Setting → ℕ → WorkerState → Move → WorkerState → Type 0
IsListedNext setting worker Idle move after = BeginsOne setting worker move after
IsListedNext setting worker (Runs state entered) move after =
    IsNextOf worker state entered (next_step (program_of_setting setting) state) move after
IsListedNext setting worker (Leaves entered) move after = LeavesOne worker entered move after

abbrev pub StepsAreListed : Type 0
StepsAreListed =
    (setting : Setting) (count worker : ℕ) (before : WorkerState) (move : Move) (after : WorkerState) →
    IsStep setting count worker before move after → IsListedNext setting worker before move after

-- one move from one state leads to one state
abbrev pub MovesLeadToOne : Type 0
MovesLeadToOne =
    (setting : Setting) (count worker : ℕ) (before : WorkerState) (move : Move) (one other : WorkerState) →
    IsStep setting count worker before move one → IsStep setting count worker before move other → one ≡ other

-- ---- a run of the system is its program's trace

-- on replies of the calls' form, which are among the worker's own entries, session by session, as `run_frame` says it
pub record IsOwnTrace (setting : Setting) (worker told now : ℕ) (frame : List ℕ) (count : ℕ) (before after : PassView) (verdict : Verdict)
    (last : MachineState) : Type 0 where
  pub exchanges : List Exchange
  pub instructions : ℕ
  pub trace :
      trace_of instructions (program_of_setting setting) (initial_state (input_frame frame) told now) (replies_in exchanges)
      ≡ record { calls = calls_in exchanges; stand = HasExited verdict last }
  pub within : AreCallsWithin count exchanges
  pub formed : AreFormed (program_of_setting setting) exchanges
  pub written : (number : ℕ) → number < count → own_at after number ≡ reverse (session_at worker number exchanges) ++ own_at before number

abbrev pub RunsAreTraces : Type 0
RunsAreTraces =
    (setting : Setting) (worker told now : ℕ) (frame : List ℕ) (count : ℕ) (before after : PassView) (verdict : Verdict)
    (last : MachineState) →
    IsRunOfSystem setting worker told now frame count before after verdict last →
    IsOwnTrace setting worker told now frame count before after verdict last

-- two runs on one frame at one moment, which wrote the same, have one verdict and one last state: so with another verdict, another last
-- frame or another number of instructions it is no run of the system
abbrev pub RunsHaveOneOutcome : Type 0
RunsHaveOneOutcome =
    (setting : Setting) (worker told now : ℕ) (frame : List ℕ) (count : ℕ) (before after : PassView) (verdict verdict' : Verdict)
    (last last' : MachineState) →
    IsRunOfSystem setting worker told now frame count before after verdict last →
    IsRunOfSystem setting worker told now frame count before after verdict' last' →
    (verdict ≡ verdict') × (last ≡ last')
