-- All runs and all shards together: what may happen next, and what it leads to. The shared steps of workers, controller and
-- reclaimer interleave in any way.
use Rattle.std.specs.Prelude.{◌≡◌, ℕ, ◌*◌, ◌^◌, ◌<◌, ◌≤◌, ◌==◌, Bool, true, false, not, List, [], ◌∷◌, length, replicate, reverse, filter, All}
use Rattle.std.specs.Prelude.{Option, Some, None, slice_index_or, slice_set, if◌then◌else◌, IsTrue}
use Rattle.std.specs.List.{list_any}
use Rattle.ebpf_decode.specs.declared.insn.Insn.{Insn}
use Rattle.ebpf_decode.specs.declared.map.MapDef.{MapDef}
use Rattle.wire.specs.FrameView.{FrameView}
use Rattle.semantics.specs.declared.options.Options.{Options}
use Rattle.semantics.specs.declared.call.Caller.{Caller}
use Rattle.semantics.specs.declared.call.Caller.TheVariants.{Worker, Controller, Reclaimer}
use Rattle.semantics.specs.declared.call.Call.{Call}
use Rattle.semantics.specs.declared.call.Call.TheVariants.{Enter, Leave, Update, Delete, Reclaim}
use Rattle.semantics.specs.declared.call.Reply.{Reply}
use Rattle.semantics.specs.declared.call.Entry.{Entry}
use Rattle.semantics.specs.MachineState.{MachineState, initial_state}
use Rattle.semantics.specs.Program.{Program}
use Rattle.semantics.specs.Step.{Step, Continues, CallsMap, Exits}
use Rattle.semantics.specs.Semantics.{next_step}
use Rattle.semantics.specs.ShardPlan.{ShardPlan, plan_at}
use Rattle.semantics.specs.SequentialShard.{reply_of, shard_after}
use Rattle.semantics.specs.History.{shard_of_call, meets, journal_is_full}
use Rattle.semantics.specs.Entries.{History, Journal}

-- an image, and the options with which its shards were opened
pub record Setting : Type 0 where
  pub maps : List MapDef
  pub code : List Insn
  pub options : Options

abbrev pub program_of_setting : Setting → Program
program_of_setting setting = record { code = setting.code; maps = setting.maps; shards = setting.options.shards }

pub data WorkerState : Type 0 where
  Idle : WorkerState
  -- in a run, with the shards that it has entered
  Runs : (state : MachineState) → (entered : List ℕ) → WorkerState
  -- its run is over, and it has still to leave these shards
  Leaves : (entered : List ℕ) → WorkerState

pub record SystemState : Type 0 where
  -- the state of each worker, by its number
  pub workers : List WorkerState
  -- the history of each shard, by its number
  pub histories : List History

-- eight workers that do nothing, and shards in which nothing has happened
abbrev pub opening_system : Setting → SystemState
opening_system setting = record {
  workers = replicate 8 Idle;
  histories = replicate (length setting.maps * setting.options.shards) [];
}

abbrev pub worker_state : SystemState → ℕ → WorkerState
worker_state system worker = slice_index_or system.workers worker Idle

abbrev pub history_of : SystemState → ℕ → History
history_of system shard = slice_index_or system.histories shard []

abbrev pub journal_of : SystemState → ℕ → Journal
journal_of system shard = reverse (history_of system shard)

abbrev pub with_worker : SystemState → ℕ → WorkerState → SystemState
with_worker system worker state = record system { workers = slice_set system.workers worker state }

abbrev pub with_entry : SystemState → ℕ → Entry → SystemState
with_entry system shard entry =
    record system { histories = slice_set system.histories shard (entry ∷ history_of system shard) }

-- ---- events

pub data SystemEvent : Type 0 where
  -- an idle worker begins a run on a frame, at a time in nanoseconds; the run gets a worker's number, which need not be its own
  BeginsRun : (worker : ℕ) → (frame : List ℕ) → (now : ℕ) → (told : ℕ) → SystemEvent
  -- a worker does an instruction that touches nothing shared
  DoesInstruction : (worker : ℕ) → SystemEvent
  -- a worker makes its run's next call, or enters the shard first
  CallsShard : (worker : ℕ) → SystemEvent
  -- a worker whose run is over leaves a shard
  LeavesShard : (worker : ℕ) → (shard : ℕ) → SystemEvent
  -- the controller updates or deletes a key
  Controls : (call : Call) → SystemEvent
  -- the reclaimer frees what it may in a shard
  Reclaims : (shard : ℕ) → SystemEvent

-- a frame of 14 to 2048 bytes
pub record IsInputFrame (frame : List ℕ) : Type 0 where
  pub least : 14 ≤ length frame
  pub greatest : length frame ≤ 2048
  pub bytes : All (λ byte. byte < 256) frame

abbrev pub is_entered : ℕ → List ℕ → Bool
is_entered shard entered = list_any (λ one. one == shard) entered

abbrev pub is_key_change : Call → Bool
is_key_change (Update shard key value flags) = true
is_key_change (Delete shard key) = true
is_key_change call = false

-- a call of one that is in no run: its shard exists, and it meets its condition
abbrev pub MayCall : Option ShardPlan → SystemState → Caller → Call → Type 0
MayCall (Some plan) system who call = IsTrue (meets plan (history_of system plan.number) who call)
MayCall None system who call = ⊥

abbrev pub is_local : Step → Bool
is_local (Continues next) = true
is_local (Exits verdict last) = true
is_local step = false

abbrev pub calls_map : Step → Bool
calls_map (CallsMap call next) = true
calls_map step = false

abbrev pub DoesNext : Setting → WorkerState → (Step → Bool) → Type 0
DoesNext setting (Runs state entered) test = IsTrue (test (next_step (program_of_setting setting) state))
DoesNext setting other test = ⊥

abbrev pub MayLeave : WorkerState → ℕ → Type 0
MayLeave (Leaves entered) shard = IsTrue (is_entered shard entered)
MayLeave other shard = ⊥

-- what the event needs in order to happen
abbrev pub CanHappen : Setting → SystemState → SystemEvent → Type 0
CanHappen setting system (BeginsRun worker frame now told) =
    (worker < setting.options.workers) × (worker_state system worker ≡ Idle) × IsInputFrame frame × (now < 2 ^ 64) × (told < 8)
CanHappen setting system (DoesInstruction worker) = DoesNext setting (worker_state system worker) is_local
CanHappen setting system (CallsShard worker) = DoesNext setting (worker_state system worker) calls_map
CanHappen setting system (LeavesShard worker shard) = MayLeave (worker_state system worker) shard
CanHappen setting system (Controls call) =
    IsTrue (is_key_change call) ×
    MayCall (plan_at setting.maps setting.options (shard_of_call call)) system Controller call
CanHappen setting system (Reclaims shard) =
    MayCall (plan_at setting.maps setting.options shard) system Reclaimer (Reclaim shard)

-- ---- what an event leads to

-- a run is over: the worker has still to leave the shards that it entered
abbrev pub run_over : List ℕ → WorkerState
run_over [] = Idle
run_over (shard ∷ entered) = Leaves (shard ∷ entered)

abbrev pub input_frame : List ℕ → FrameView
input_frame bytes = record { bytes = bytes; headroom = 256 }

abbrev pub after_local : Step → List ℕ → WorkerState → WorkerState
after_local (Continues next) entered before = Runs next entered
after_local (Exits verdict last) entered before = run_over entered
after_local step entered before = before

abbrev pub after_instruction : Setting → WorkerState → WorkerState
after_instruction setting (Runs state entered) = after_local (next_step (program_of_setting setting) state) entered (Runs state entered)
after_instruction setting other = other

-- the entry that a served call writes
abbrev pub entry_for : ShardPlan → SystemState → Caller → Call → Entry
entry_for plan system who call = record {
  who = who;
  call = call;
  reply = reply_of plan (history_of system plan.number) (shard_after plan (history_of system plan.number)) call;
}

-- a call of one that is in no run: a full journal refuses it, and nothing changes
abbrev pub after_call : Option ShardPlan → SystemState → Caller → Call → SystemState
after_call (Some plan) system who call =
    if journal_is_full plan (history_of system plan.number) call then system
    else with_entry system plan.number (entry_for plan system who call)
after_call None system who call = system

-- a run's call: a full journal refuses it and ends the run; where it is served, the run goes on by its reply
abbrev pub after_run_call : Option ShardPlan → SystemState → ℕ → Call → List ℕ → (Reply → WorkerState) → SystemState
after_run_call (Some plan) system worker call entered next =
    if journal_is_full plan (history_of system plan.number) call then with_worker system worker (run_over entered)
    else with_worker (with_entry system plan.number (entry_for plan system (Worker worker) call)) worker
    (next (entry_for plan system (Worker worker) call).reply)
after_run_call None system worker call entered next = system

-- a run enters a shard before its first call there
abbrev pub after_asking : Setting → SystemState → ℕ → MachineState → List ℕ → Step → SystemState
after_asking setting system worker state entered (CallsMap call next) =
    if is_entered (shard_of_call call) entered
    then after_run_call (plan_at setting.maps setting.options (shard_of_call call)) system worker call entered
    (λ reply. Runs (next reply) entered)
    else after_run_call (plan_at setting.maps setting.options (shard_of_call call)) system worker (Enter (shard_of_call call)) entered
    (λ reply. Runs state (shard_of_call call ∷ entered))
after_asking setting system worker state entered step = system

abbrev pub after_shard_call : Setting → SystemState → ℕ → WorkerState → SystemState
after_shard_call setting system worker (Runs state entered) =
    after_asking setting system worker state entered (next_step (program_of_setting setting) state)
after_shard_call setting system worker other = system

abbrev pub without_shard : ℕ → List ℕ → List ℕ
without_shard shard entered = filter (λ one. not (one == shard)) entered

abbrev pub after_leaving : Setting → SystemState → ℕ → ℕ → WorkerState → SystemState
after_leaving setting system worker shard (Leaves entered) =
    after_run_call (plan_at setting.maps setting.options shard) system worker (Leave shard) entered
    (λ reply. run_over (without_shard shard entered))
after_leaving setting system worker shard other = system

-- the state after the event
abbrev pub after_event : Setting → SystemState → SystemEvent → SystemState
after_event setting system (BeginsRun worker frame now told) =
    with_worker system worker (Runs (initial_state (input_frame frame) told now) [])
after_event setting system (DoesInstruction worker) =
    with_worker system worker (after_instruction setting (worker_state system worker))
after_event setting system (CallsShard worker) = after_shard_call setting system worker (worker_state system worker)
after_event setting system (LeavesShard worker shard) = after_leaving setting system worker shard (worker_state system worker)
after_event setting system (Controls call) =
    after_call (plan_at setting.maps setting.options (shard_of_call call)) system Controller call
after_event setting system (Reclaims shard) =
    after_call (plan_at setting.maps setting.options shard) system Reclaimer (Reclaim shard)

-- ---- what events lead to, the oldest first, one after the other

-- from this state on
abbrev pub after_all : Setting → SystemState → List SystemEvent → SystemState
after_all setting before [] = before
after_all setting before (event ∷ later) = after_all setting (after_event setting before event) later

abbrev pub CanAllFollow : Setting → SystemState → List SystemEvent → Type 0
CanAllFollow setting before [] = Unit {0}
CanAllFollow setting before (event ∷ later) =
    CanHappen setting before event × CanAllFollow setting (after_event setting before event) later

-- and from the opening on
abbrev pub system_after : Setting → List SystemEvent → SystemState
system_after setting events = after_all setting (opening_system setting) events

abbrev pub CanAllHappen : Setting → List SystemEvent → Type 0
CanAllHappen setting events = CanAllFollow setting (opening_system setting) events
