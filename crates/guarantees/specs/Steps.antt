-- The steps of one worker: each way in which it can go on, what that needs, what it asks of a shard, and where the worker then is.
use Rattle.std.specs.Prelude.{◌≡◌, ℕ, ◌<◌, ◌^◌, true, false, List, [], ◌∷◌, ◌++◌, filter, map}
use Rattle.semantics.specs.declared.call.Caller.TheVariants.{Worker}
use Rattle.semantics.specs.declared.call.Call.{Call}
use Rattle.semantics.specs.declared.call.Call.TheVariants.{Enter}
use Rattle.semantics.specs.declared.call.Reply.{Reply}
use Rattle.semantics.specs.declared.call.Entry.{Entry}
use Rattle.semantics.specs.declared.verdict.Verdict.{Verdict}
use Rattle.semantics.specs.MachineState.{MachineState, initial_state}
use Rattle.semantics.specs.History.{shard_of_call}
use Rattle.semantics.specs.RunTrace.{IsReplyTo}
use Rattle.semantics.specs.Step.{Continues, CallsMap, Exits}
use Rattle.semantics.specs.Semantics.{next_step}
use Rattle.semantics.specs.System.{Setting, program_of_setting, SystemEvent, BeginsRun, DoesInstruction, CallsShard, LeavesShard}
use Rattle.semantics.specs.System.{WorkerState, Idle, Runs, Leaves, is_entered, run_over, without_shard, IsInputFrame, input_frame}
use Rattle.shards.specs.declared.deeds.Deed.{Deed}
use Rattle.shards.specs.declared.deeds.Deed.TheVariants.{Wrote, MetFull}
use Rattle.shards.specs.Deeds.{is_of_shard}
use Rattle.shard_port.specs.Asking.{enter_by, leave_by, asked_entry}

-- ---- what a worker's event asks of a shard

pub data AskedOfShard : Type 0 where
  -- no shard
  Nothing : AskedOfShard
  -- the shard of this entry, which is written
  Writes : (entry : Entry) → AskedOfShard
  -- the shard of this call, whose journal is full
  TurnedAway : (call : Call) → AskedOfShard

pub record Move : Type 0 where
  pub event : SystemEvent
  pub asked : AskedOfShard

-- a run begins on a frame, at a time, with a worker's number
abbrev pub begins : ℕ → List ℕ → ℕ → ℕ → Move
begins worker frame now told = record { event = BeginsRun worker frame now told; asked = Nothing }

-- an instruction that calls nothing
abbrev pub does : ℕ → Move
does worker = record { event = DoesInstruction worker; asked = Nothing }

-- a run asks a shard
abbrev pub asks : ℕ → AskedOfShard → Move
asks worker asked = record { event = CallsShard worker; asked = asked }

-- a worker whose run is over leaves a shard
abbrev pub leave : ℕ → ℕ → Move
leave worker shard = record { event = LeavesShard worker shard; asked = Writes (leave_by worker shard) }

-- ---- steps, over N shards

pub data IsStep (setting : Setting) (count worker : ℕ) : WorkerState → Move → WorkerState → Type 0 where
  -- an idle worker begins a run on a frame
  RunBegins : (frame : List ℕ) → (now told : ℕ) → worker < setting.options.workers → IsInputFrame frame → now < 2 ^ 64 → told < 8 →
      IsStep setting count worker Idle (begins worker frame now told) (Runs (initial_state (input_frame frame) told now) [])
  -- the next instruction calls nothing, and the run goes on
  RunGoesOn : (state next : MachineState) → (entered : List ℕ) → next_step (program_of_setting setting) state ≡ Continues next →
      IsStep setting count worker (Runs state entered) (does worker) (Runs next entered)
  -- the next instruction ends the run
  RunEnds : (state last : MachineState) → (verdict : Verdict) → (entered : List ℕ) →
      next_step (program_of_setting setting) state ≡ Exits verdict last →
      IsStep setting count worker (Runs state entered) (does worker) (run_over entered)
  -- the next instruction calls a shard that the run has entered, and the call is entered in the history; the run goes on by the reply
  CallIsServed : (state : MachineState) → (entered : List ℕ) → (call : Call) → (next : Reply → MachineState) → (reply : Reply) →
      next_step (program_of_setting setting) state ≡ CallsMap call next → shard_of_call call < count →
      is_entered (shard_of_call call) entered ≡ true →
      IsReplyTo (program_of_setting setting) call reply →
      IsStep setting count worker (Runs state entered) (asks worker (Writes (asked_entry worker call reply))) (Runs (next reply) entered)
  -- the next instruction calls a shard that the run has not entered: it enters that shard first
  ShardIsEntered : (state : MachineState) → (entered : List ℕ) → (call : Call) → (next : Reply → MachineState) →
      next_step (program_of_setting setting) state ≡ CallsMap call next → shard_of_call call < count →
      is_entered (shard_of_call call) entered ≡ false →
      IsStep setting count worker (Runs state entered) (asks worker (Writes (enter_by worker (shard_of_call call))))
      (Runs state (shard_of_call call ∷ entered))
  -- the call met a full journal: the run is over
  CallIsRefused : (state : MachineState) → (entered : List ℕ) → (call : Call) → (next : Reply → MachineState) →
      next_step (program_of_setting setting) state ≡ CallsMap call next → shard_of_call call < count →
      is_entered (shard_of_call call) entered ≡ true →
      IsStep setting count worker (Runs state entered) (asks worker (TurnedAway call)) (run_over entered)
  -- the Enter before the call met one
  EnterIsRefused : (state : MachineState) → (entered : List ℕ) → (call : Call) → (next : Reply → MachineState) →
      next_step (program_of_setting setting) state ≡ CallsMap call next → shard_of_call call < count →
      is_entered (shard_of_call call) entered ≡ false →
      IsStep setting count worker (Runs state entered) (asks worker (TurnedAway (Enter (shard_of_call call)))) (run_over entered)
  -- the run is over, and its worker leaves one of the shards that it entered
  ShardIsLeft : (shard : ℕ) → (entered : List ℕ) → shard < count → is_entered shard entered ≡ true →
      IsStep setting count worker (Leaves entered) (leave worker shard) (run_over (without_shard shard entered))

-- ---- steps one after the other

abbrev pub AreSteps : Setting → ℕ → ℕ → WorkerState → List Move → WorkerState → Type 0
AreSteps setting count worker before [] after = before ≡ after
AreSteps setting count worker before (move ∷ later) after =
    (between : WorkerState) × IsStep setting count worker before move between × AreSteps setting count worker between later after

-- a worker in its run, with the shards that it has entered
pub record InRun : Type 0 where
  pub state : MachineState
  pub entered : List ℕ

abbrev pub running : InRun → WorkerState
running here = Runs here.state here.entered

-- steps of one run: between them the worker is always in it
abbrev pub AreStepsOfRun : Setting → ℕ → ℕ → InRun → List Move → InRun → Type 0
AreStepsOfRun setting count worker before [] after = before ≡ after
AreStepsOfRun setting count worker before (move ∷ later) after =
    (between : InRun) × IsStep setting count worker (running before) move (running between)
    × AreStepsOfRun setting count worker between later after

-- where a run on a frame begins
abbrev pub beginning : List ℕ → ℕ → ℕ → InRun
beginning frame told now = record { state = initial_state (input_frame frame) told now; entered = [] }

-- the worker leaves these shards, one after the other
abbrev pub leavings : ℕ → List ℕ → List Move
leavings worker shards = map (leave worker) shards

-- ---- what they write

-- the entries that the moves write, in order
abbrev pub entries_asked : AskedOfShard → List Entry
entries_asked (Writes entry) = entry ∷ []
entries_asked asked = []

abbrev pub entries_in : List Move → List Entry
entries_in [] = []
entries_in (move ∷ later) = entries_asked move.asked ++ entries_in later

-- those on the shard of this number
abbrev pub entries_on : ℕ → List Move → List Entry
entries_on number moves = filter (is_of_shard number) (entries_in moves)

-- what a worker's moves do on shards, in order: the entries that they write, and the calls that meet a full journal
abbrev pub deeds_asked : ℕ → AskedOfShard → List Deed
deeds_asked worker Nothing = []
deeds_asked worker (Writes entry) = Wrote entry ∷ []
deeds_asked worker (TurnedAway call) = MetFull (Worker worker) call ∷ []

abbrev pub deeds_in : ℕ → List Move → List Deed
deeds_in worker [] = []
deeds_in worker (move ∷ later) = deeds_asked worker move.asked ++ deeds_in worker later
