-- What a step means in the system of all workers: the event can happen, and leads where the step says, in every state of the system in
-- which its worker is in that state and the shard replies that way.
use Rattle.std.specs.Prelude.{◌≡◌, ℕ, ◌==◌, Bool, false, IsTrue, IsFalse, Some}
use Rattle.semantics.specs.declared.call.Call.{Call}
use Rattle.semantics.specs.declared.call.Entry.{Entry}
use Rattle.semantics.specs.declared.plan.ShardPlan.{ShardPlan}
use Rattle.semantics.specs.ShardPlan.{plan_at}
use Rattle.semantics.specs.SequentialShard.{reply_of, shard_after}
use Rattle.semantics.specs.History.{shard_of_call, journal_is_full}
use Rattle.semantics.specs.System.{Setting, SystemState, SystemEvent, BeginsRun, DoesInstruction, CallsShard, LeavesShard, WorkerState}
use Rattle.semantics.specs.System.{worker_state, history_of, with_worker, with_entry, CanHappen, after_event}
use Rattle.guarantees.specs.Steps.{AskedOfShard, Nothing, Writes, TurnedAway, Move, IsStep}

-- the shard is one of the setting's, its journal has room, and the reply is the one-thread map's after the shard's history
pub record Answers (setting : Setting) (system : SystemState) (entry : Entry) : Type 0 where
  pub plan : ShardPlan
  pub known : plan_at setting.maps setting.options (shard_of_call entry.call) ≡ Some plan
  pub room : IsFalse (journal_is_full plan (history_of system plan.number) entry.call)
  pub replied :
      entry.reply ≡ reply_of plan (history_of system plan.number) (shard_after plan (history_of system plan.number)) entry.call

-- the shard is one of the setting's, and its journal has no room
pub record TurnsAway (setting : Setting) (system : SystemState) (call : Call) : Type 0 where
  pub plan : ShardPlan
  pub known : plan_at setting.maps setting.options (shard_of_call call) ≡ Some plan
  pub full : IsTrue (journal_is_full plan (history_of system plan.number) call)

abbrev pub IsAskedSo : Setting → SystemState → AskedOfShard → Type 0
IsAskedSo setting system Nothing = Unit {0}
IsAskedSo setting system (Writes entry) = Answers setting system entry
IsAskedSo setting system (TurnedAway call) = TurnsAway setting system call

abbrev pub after_asked : SystemState → AskedOfShard → SystemState
after_asked system (Writes entry) = with_entry system (shard_of_call entry.call) entry
after_asked system asked = system

abbrev pub is_event_of : ℕ → SystemEvent → Bool
is_event_of worker (BeginsRun one frame now told) = one == worker
is_event_of worker (DoesInstruction one) = one == worker
is_event_of worker (CallsShard one) = one == worker
is_event_of worker (LeavesShard one shard) = one == worker
is_event_of worker event = false

-- the event can happen; it leads to the state in which the shard's history has the entry more, the worker is where it says, and nothing
-- else has changed
pub record IsMove (setting : Setting) (worker : ℕ) (before : WorkerState) (move : Move) (after : WorkerState) : Type 0 where
  pub own : IsTrue (is_event_of worker move.event)
  pub can : (system : SystemState) → worker_state system worker ≡ before → IsAskedSo setting system move.asked →
      CanHappen setting system move.event
  pub leads :
      (system : SystemState) → worker_state system worker ≡ before → IsAskedSo setting system move.asked →
      after_event setting system move.event ≡ with_worker (after_asked system move.asked) worker after

-- ---- the law

abbrev pub StepsAreMoves : Type 0
StepsAreMoves =
    (setting : Setting) (count worker : ℕ) (before : WorkerState) (move : Move) (after : WorkerState) →
    IsStep setting count worker before move after → IsMove setting worker before move after
