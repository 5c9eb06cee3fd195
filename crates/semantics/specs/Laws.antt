-- What follows from the definitions of a shard, whatever is called on it.
use Rattle.std.specs.Prelude.{◌≡◌, ℕ, ◌<◌, ◌≤◌, List, ◌∷◌, ◌++◌, length, All, IsTrue, IsFalse}
use Rattle.semantics.specs.declared.call.Entry.{Entry}
use Rattle.semantics.specs.declared.plan.RetiredCell.{RetiredCell}
use Rattle.semantics.specs.Reclamation.{Holds, IsReclaimable}
use Rattle.semantics.specs.ShardPlan.{ShardPlan}
use Rattle.semantics.specs.PlanLimits.{IsPlan}
use Rattle.semantics.specs.SequentialShard.{SequentialShard, shard_after, with_new_key, is_kept}
use Rattle.semantics.specs.History.{journal_is_full, IsSequentialStep, IsLegalHistory}
use Rattle.semantics.specs.Entries.{History}

-- two steps of one call from one history have one reply, and leave one state
abbrev pub HasOneReply : Type 0
HasOneReply =
    (plan : ShardPlan) (history : History) (entry other : Entry) → entry.call ≡ other.call →
    IsSequentialStep plan history entry → IsSequentialStep plan history other → entry.reply ≡ other.reply

abbrev pub LeavesOneState : Type 0
LeavesOneState =
    (plan : ShardPlan) (history : History) (entry other : Entry) → entry.call ≡ other.call →
    shard_after plan (entry ∷ history) ≡ shard_after plan (other ∷ history)

-- a step that meets no full journal keeps a legal history legal
abbrev pub KeepsLegal : Type 0
KeepsLegal =
    (plan : ShardPlan) (history : History) (entry : Entry) → IsLegalHistory plan history →
    IsSequentialStep plan history entry → IsFalse (journal_is_full plan history entry.call) →
    IsLegalHistory plan (entry ∷ history)

-- a shard never has fewer cells than before
abbrev pub CellsStay : Type 0
CellsStay =
    (plan : ShardPlan) (newer older : History) →
    length (shard_after plan older).cells ≤ length (shard_after plan (newer ++ older)).cells

-- a new key's cell is the first that the shard did not have, and there is one more then
abbrev pub NewKeyHasNextCell : Type 0
NewKeyHasNextCell =
    (shard : SequentialShard) (key value : List ℕ) →
    ((with_new_key shard key value).present ≡ (record { key = key; cell = length shard.cells }) ∷ shard.present)
    × (length shard.cells < length (with_new_key shard key value).cells)

-- a cell that a worker holds is not freed: none of that id is reclaimable
abbrev pub HeldCellStays : Type 0
HeldCellStays =
    (plan : ShardPlan) (history : History) (worker cell : ℕ) → worker < 8 → IsLegalHistory plan history →
    Holds worker cell history →
    All (λ (retired : RetiredCell). retired.cell ≡ cell → ¬ IsReclaimable history retired) (shard_after plan history).retired

-- so it is kept: it has a present key, or waits for its readers; an array's shard has a cell for each of its indices
abbrev pub HeldCellIsKept : Type 0
HeldCellIsKept =
    (plan : ShardPlan) (history : History) (worker cell : ℕ) → IsPlan plan →
    worker < 8 → IsLegalHistory plan history → Holds worker cell history → IsTrue (is_kept plan (shard_after plan history) cell)
