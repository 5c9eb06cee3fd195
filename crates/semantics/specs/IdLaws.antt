-- The ids of a shard's cells count its creations.
use Rattle.std.specs.Prelude.{◌≡◌, ℕ, ◌+◌, ◌≤◌, Bool, false, not, ◌&&◌, List, [], ◌∷◌, length, is_some, if◌then◌else◌}
use Rattle.semantics.specs.declared.call.Call.{Call}
use Rattle.semantics.specs.declared.call.Call.TheVariants.{Update}
use Rattle.semantics.specs.ShardPlan.{ShardPlan}
use Rattle.semantics.specs.LeastRecentlyUsed.{is_zero}
use Rattle.semantics.specs.SequentialShard.{SequentialShard, opening_cells, cell_of_key, update_answer, shard_after}
use Rattle.semantics.specs.Entries.{History}

-- the call creates a cell: an Update of an absent key that is answered 0
abbrev pub creates : ShardPlan → SequentialShard → Call → Bool
creates plan shard (Update number key value flags) =
    is_zero (update_answer plan shard key flags) && not (is_some (cell_of_key plan shard key))
creates plan shard call = false

-- how many of the entries did
abbrev pub creations : ShardPlan → History → ℕ
creations plan [] = 0
creations plan (entry ∷ older) = (if creates plan (shard_after plan older) entry.call then 1 else 0) + creations plan older

-- the next id, which a new key's cell gets, is the number of cells at the opening and of those created since
abbrev pub IdsCountCreations : Type 0
IdsCountCreations =
    (plan : ShardPlan) (history : History) →
    length (shard_after plan history).cells ≡ length (opening_cells plan.definition.kind plan) + creations plan history

-- so it is at most the cells at the opening and the entries
abbrev pub IdsAreFew : Type 0
IdsAreFew =
    (plan : ShardPlan) (history : History) →
    length (shard_after plan history).cells ≤ length (opening_cells plan.definition.kind plan) + length history
