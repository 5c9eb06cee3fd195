-- What a worker asks of a shard: it enters the shard before its first call there, and leaves it at the end.
use Rattle.std.specs.Prelude.{◌≡◌, ◌⊎◌, ℕ, Bool, false, not, ◌&&◌, ◌||◌, nat_lt, List, [], ◌∷◌, ◌++◌, reverse, map, Option, Some, None}
use Rattle.std.specs.Prelude.{slice_get, slice_set, if◌then◌else◌, IsTrue, IsFalse}
use Rattle.semantics.specs.declared.call.Caller.TheVariants.{Worker}
use Rattle.semantics.specs.declared.call.Call.{Call}
use Rattle.semantics.specs.declared.call.Call.TheVariants.{Enter}
use Rattle.semantics.specs.declared.call.Reply.{Reply}
use Rattle.semantics.specs.declared.call.Entry.{Entry}
use Rattle.semantics.specs.Reclamation.{is_inside}
use Rattle.semantics.specs.History.{shard_of_call, meets, Meets, journal_is_full, IsJournalFull, IsLegalJournal}
use Rattle.journal.specs.Entries.{enter_entry, leave_entry}
use Rattle.shard_core.specs.JournaledShard.{JournaledShard, sequential_reply, shard_with_entry}

-- ---- entering and leaving

abbrev pub is_in : ℕ → JournaledShard → Bool
is_in worker shard = is_inside worker (reverse shard.journal)

-- the worker's Enter and Leave
abbrev pub enter_by : ℕ → ℕ → Entry
enter_by worker number = enter_entry number (Worker worker)

abbrev pub leave_by : ℕ → ℕ → Entry
leave_by worker number = leave_entry number (Worker worker)

-- the entry by which the worker enters, if it is not inside
abbrev pub entering : ℕ → JournaledShard → List Entry
entering worker shard = if is_in worker shard then [] else enter_by worker shard.plan.number ∷ []

-- the entry by which the worker leaves, if it is inside
abbrev pub leaving : ℕ → JournaledShard → List Entry
leaving worker shard = if is_in worker shard then leave_by worker shard.plan.number ∷ [] else []

-- the shard with the worker inside
abbrev pub entered : ℕ → JournaledShard → JournaledShard
entered worker shard = record { plan = shard.plan; journal = shard.journal ++ entering worker shard }

-- the shard with the worker outside
abbrev pub left : ℕ → JournaledShard → JournaledShard
left worker shard = record { plan = shard.plan; journal = shard.journal ++ leaving worker shard }

-- the worker is inside, or the journal has room for its Enter
abbrev pub can_enter : ℕ → JournaledShard → Bool
can_enter worker shard = is_in worker shard || not (journal_is_full shard.plan (reverse shard.journal) (Enter shard.plan.number))

-- ---- asking one shard

-- the worker is one of the shard's, and may make the call once it is inside
abbrev pub may_ask : ℕ → JournaledShard → Call → Bool
may_ask worker shard call =
    nat_lt worker shard.plan.workers && meets shard.plan (reverse (entered worker shard).journal) (Worker worker) call

abbrev pub asked_entry : ℕ → Call → Reply → Entry
asked_entry worker call reply = record { who = Worker worker; call = call; reply = reply }

-- the worker entered where it was not inside, and made the call: the one-thread shard's step
pub record EntersAndCalls (worker : ℕ) (before : JournaledShard) (call : Call) (reply : Reply) (after : JournaledShard) : Type 0 where
  pub legal : IsLegalJournal before.plan before.journal
  pub enters : IsTrue (can_enter worker before)
  pub met : Meets before.plan (reverse (entered worker before).journal) (Worker worker) call
  pub room : IsFalse (journal_is_full before.plan (reverse (entered worker before).journal) call)
  pub replied : reply ≡ sequential_reply (entered worker before) call
  pub written : after ≡ shard_with_entry (entered worker before) (asked_entry worker call reply)

-- there was no room for the Enter, and nothing was changed
pub record CannotEnter (worker : ℕ) (before : JournaledShard) (after : JournaledShard) : Type 0 where
  pub full : IsFalse (can_enter worker before)
  pub unchanged : after ≡ before

-- the worker is inside, and there was no room for the call
pub record CannotCall (worker : ℕ) (before : JournaledShard) (call : Call) (after : JournaledShard) : Type 0 where
  pub enters : IsTrue (can_enter worker before)
  pub full : IsJournalFull before.plan (reverse (entered worker before).journal) call
  pub entered_only : after ≡ entered worker before

abbrev pub CannotEnterOrCall : ℕ → JournaledShard → Call → JournaledShard → Type 0
CannotEnterOrCall worker before call after = CannotEnter worker before after ⊎ CannotCall worker before call after

-- ---- asking one of many shards

abbrev pub may_ask_at : ℕ → Option JournaledShard → Call → Bool
may_ask_at worker (Some shard) call = may_ask worker shard call
may_ask_at worker None call = false

-- the call's shard answered, and the others stay
pub record IsAnsweredAmong (worker : ℕ) (before : List JournaledShard) (call : Call) (reply : Reply) (after : List JournaledShard) : Type 0
  where
    pub shard : JournaledShard
    pub new : JournaledShard
    pub known : slice_get before (shard_of_call call) ≡ Some shard
    pub answered : EntersAndCalls worker shard call reply new
    pub legal : IsLegalJournal new.plan new.journal
    pub put_back : after ≡ slice_set before (shard_of_call call) new

-- the call's shard refused, and the others stay
pub record IsTurnedAwayAmong (worker : ℕ) (before : List JournaledShard) (call : Call) (after : List JournaledShard) : Type 0 where
  pub shard : JournaledShard
  pub new : JournaledShard
  pub known : slice_get before (shard_of_call call) ≡ Some shard
  pub turned_away : CannotEnterOrCall worker shard call new
  pub legal : IsLegalJournal new.plan new.journal
  pub put_back : after ≡ slice_set before (shard_of_call call) new

-- ---- leaving all shards

-- the worker is one of each shard's
abbrev pub IsWorkerOf : ℕ → JournaledShard → Type 0
IsWorkerOf worker shard = IsTrue (nat_lt worker shard.plan.workers)

abbrev pub all_left : ℕ → List JournaledShard → List JournaledShard
all_left worker shards = map (left worker) shards
