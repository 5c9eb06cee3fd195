-- The one-thread shard: what contracts see of it, and what its fields are.
use Rattle.std.specs.Prelude.{◌≡◌, ◌∷◌, ◌+◌, ◌<◌, ◌≤◌, ◌^◌, List, length, reverse, IsTrue}
use Rattle.semantics.specs.declared.call.Entry.{Entry}
use Rattle.semantics.specs.declared.call.Call.{Call}
use Rattle.semantics.specs.declared.call.Call.TheVariants.{Enter, Leave, Lookup, Load, Store, Atomic, Update, Delete, Reclaim}
use Rattle.test_support.specs.declared.one_thread_map.state.ShardState.{ShardState}
use Rattle.semantics.specs.declared.plan.ShardPlan.{ShardPlan}
use Rattle.semantics.specs.PlanLimits.{IsPlan}
use Rattle.semantics.specs.SequentialShard.{SequentialShard, shard_after}
use Rattle.semantics.specs.History.{is_atomic_size, IsLegalHistory}

-- what it was opened with, and its history, the newest entry first
pub record OneThread : Type 0 where
  pub plan : ShardPlan
  pub history : List Entry

-- one entry more
abbrev pub one_thread_with_entry : OneThread → Entry → OneThread
one_thread_with_entry shard entry = record { plan = shard.plan; history = entry ∷ shard.history }

-- the lists that the fields hold
abbrev pub state_of_lists : ShardState → SequentialShard
state_of_lists state = record { present = state.present.items; cells = state.cells.items; retired = state.retired.items }

-- the state is what the journal leads to, and the journal is legal
pub record IsOneThread (plan : ShardPlan) (journal : List Entry) (state : SequentialShard) : Type 0 where
  pub plan_is : IsPlan plan
  pub led : state ≡ shard_after plan (reverse journal)
  pub legal : IsLegalHistory plan (reverse journal)

-- the sizes in a call that a shard serves: a key of the map's length, a size of at most 8, bytes within 256, numbers within the
-- size
abbrev pub IsSized : ShardPlan → Call → Type 0
IsSized plan (Enter shard) = Unit {0}
IsSized plan (Leave shard) = Unit {0}
IsSized plan (Lookup shard key) = length key ≡ plan.definition.key_size
IsSized plan (Load cell offset size) = size ≤ 8
IsSized plan (Store cell offset size value) = (size ≤ 8) × (offset + size ≤ 256)
IsSized plan (Atomic cell offset size op value expected) =
    IsTrue (is_atomic_size size) × (offset + size ≤ 256) × (value < 256 ^ size) × (expected < 256 ^ size)
IsSized plan (Update shard key value flags) = length key ≡ plan.definition.key_size
IsSized plan (Delete shard key) = length key ≡ plan.definition.key_size
IsSized plan (Reclaim shard) = Unit {0}
