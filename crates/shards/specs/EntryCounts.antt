-- How many entries of a history the first callers made, by their numbers: controller, reclaimer, then the workers. In a legal journal the
-- controller, the reclaimer and the plan's workers made all.
use Rattle.std.specs.Prelude.{◌≡◌, ℕ, zero, suc, ◌+◌, List, length, reverse}
use Rattle.semantics.specs.declared.call.Entry.{Entry}
use Rattle.semantics.specs.declared.plan.ShardPlan.{ShardPlan}
use Rattle.semantics.specs.CallerLaws.{own_entries}
use Rattle.semantics.specs.History.{IsLegalJournal}
use Rattle.shards.specs.LockRule.{caller_at}

-- the own entries of N callers, counted together
abbrev pub own_total : ℕ → List Entry → ℕ
own_total zero history = 0
own_total (suc callers) history = own_total callers history + length (own_entries (caller_at callers) history)

-- no entry of a legal journal is nobody's, and none is of two
abbrev pub AllEntriesAreSomebodys : Type 0
AllEntriesAreSomebodys =
    (plan : ShardPlan) (journal : List Entry) → IsLegalJournal plan journal →
    own_total (suc (suc plan.workers)) (reverse journal) ≡ length journal
