-- What contracts see of a shard: what it was opened with, and the journal of its calls, whose oldest entry is first.
-- Definitions speak of the history, which is the journal read from its newest entry on.
use Rattle.std.specs.Prelude.{List, [], ◌∷◌, ◌++◌, reverse}
use Rattle.semantics.specs.declared.call.Call.{Call}
use Rattle.semantics.specs.declared.call.Reply.{Reply}
use Rattle.semantics.specs.declared.call.Entry.{Entry}
use Rattle.semantics.specs.declared.plan.ShardPlan.{ShardPlan}
use Rattle.semantics.specs.SequentialShard.{SequentialShard, reply_of, shard_after}

pub record JournaledShard : Type 0 where
  pub plan : ShardPlan
  pub journal : List Entry

-- a shard in which nothing has happened
abbrev pub opened_shard : ShardPlan → JournaledShard
opened_shard plan = record { plan = plan; journal = [] }

-- the state that the journal leads to
abbrev pub state_of : JournaledShard → SequentialShard
state_of shard = shard_after shard.plan (reverse shard.journal)

-- what the one-thread shard replies to the call in that state
abbrev pub sequential_reply : JournaledShard → Call → Reply
sequential_reply shard call = reply_of shard.plan (reverse shard.journal) (state_of shard) call

-- the shard with one entry more
abbrev pub shard_with_entry : JournaledShard → Entry → JournaledShard
shard_with_entry shard entry = record { plan = shard.plan; journal = shard.journal ++ entry ∷ [] }
