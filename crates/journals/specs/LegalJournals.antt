-- When the journals of all shards are legal.
use Rattle.std.specs.Prelude.{◌≡◌, ℕ, ◌<◌, length, Some}
use Rattle.semantics.specs.declared.plan.ShardPlan.{ShardPlan}
use Rattle.semantics.specs.ShardPlan.{plan_at}
use Rattle.semantics.specs.History.{IsLegalJournal}
use Rattle.journals.specs.JournalsView.{JournalsView, entries_at}

-- the journal of the shard of this number is legal, for the plan that the maps and options give that shard
abbrev pub IsLegalShard : JournalsView → ℕ → Type 0
IsLegalShard journals number =
    (plan : ShardPlan) → plan_at journals.maps journals.options number ≡ Some plan → IsLegalJournal plan (entries_at journals number)

-- every shard's journal is
abbrev pub AreLegal : JournalsView → Type 0
AreLegal journals = (number : ℕ) → number < length journals.shards → IsLegalShard journals number
