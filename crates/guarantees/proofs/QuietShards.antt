-- Shards that saw no call that changes them.
use Rattle.std.proofs.Common.{◌≡◌, List, [], ◌∷◌, IsTrue, refl, ◌∙◌, ap}
use Rattle.std.specs.List.{AllByRecursion}
use Rattle.semantics.specs.declared.call.Call.{Call}
use Rattle.semantics.specs.declared.call.Call.TheVariants.{Enter, Leave, Lookup, Load, Store, Atomic, Update, Delete, Reclaim}
use Rattle.semantics.specs.declared.call.Entry.{Entry}
use Rattle.semantics.specs.declared.plan.ShardPlan.{ShardPlan}
use Rattle.semantics.specs.History.{IsLegalHistory}
use Rattle.semantics.specs.SequentialShard.{SequentialShard, opening_shard, shard_after, shard_after_call, reply_of}
use Rattle.guarantees.specs.ReaderRuns.{is_read, is_quiet, AreQuiet, IsReadAtOpening, QuietShardsAreAsOpened}

-- one call: no cell was retired, so a Reclaim frees none
quiet_call : (plan : ShardPlan) (history : List Entry) (call : Call) → IsTrue (is_quiet call) →
    shard_after_call plan history (opening_shard plan) call ≡ opening_shard plan
quiet_call plan history (Enter shard) quiet = refl
quiet_call plan history (Leave shard) quiet = refl
quiet_call plan history (Lookup shard key) quiet = refl
quiet_call plan history (Load cell offset size) quiet = refl
quiet_call plan history (Store cell offset size value) quiet = absurd cc
quiet_call plan history (Atomic cell offset size op value expected) quiet = absurd cc
quiet_call plan history (Update shard key value flags) quiet = absurd cc
quiet_call plan history (Delete shard key) quiet = absurd cc
quiet_call plan history (Reclaim shard) quiet = refl

as_opened : (plan : ShardPlan) (history : List Entry) → AreQuiet history → shard_after plan history ≡ opening_shard plan
as_opened plan [] quiet = refl
as_opened plan (entry ∷ older) quiet =
    ap (λ (shard : SequentialShard). shard_after_call plan older shard entry.call) (as_opened plan older quiet.1)
    ∙ quiet_call plan older entry.call quiet.0

-- what reads has the same reply whatever the history was
same_reply : (plan : ShardPlan) (history : List Entry) (shard : SequentialShard) (call : Call) → IsTrue (is_read call) →
    reply_of plan history shard call ≡ reply_of plan [] shard call
same_reply plan history shard (Lookup number key) read = refl
same_reply plan history shard (Load cell offset size) read = refl
same_reply plan history shard (Enter number) read = absurd cc
same_reply plan history shard (Leave number) read = absurd cc
same_reply plan history shard (Store cell offset size value) read = absurd cc
same_reply plan history shard (Atomic cell offset size op value expected) read = absurd cc
same_reply plan history shard (Update number key value flags) read = absurd cc
same_reply plan history shard (Delete number key) read = absurd cc
same_reply plan history shard (Reclaim number) read = absurd cc

read_at_opening : (plan : ShardPlan) (history : List Entry) → IsLegalHistory plan history → AreQuiet history →
    AllByRecursion (IsReadAtOpening plan) history
read_at_opening plan [] legal quiet = tt
read_at_opening plan (entry ∷ older) legal quiet = (
  λ read. legal.0.step.replied
      ∙ ap (λ (shard : SequentialShard). reply_of plan older shard entry.call) (as_opened plan older quiet.1)
      ∙ same_reply plan older (opening_shard plan) entry.call read,
  read_at_opening plan older legal.1 quiet.1,
)

pub quiet_shards : QuietShardsAreAsOpened
quiet_shards plan history legal quiet = (as_opened plan history quiet, read_at_opening plan history legal quiet)
