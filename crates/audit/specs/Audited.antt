-- Which entry of journals is the first that is not legal.
use Rattle.std.specs.Prelude.{◌≡◌, ℕ, ◌+◌, ◌<◌, List, length, take, Some, ⊤}
use Rattle.semantics.specs.declared.call.Entry.{Entry}
use Rattle.semantics.specs.declared.plan.ShardPlan.{ShardPlan}
use Rattle.semantics.specs.ShardPlan.{plan_at}
use Rattle.semantics.specs.History.{IsLegalJournal}
use Rattle.journals.specs.JournalsView.{JournalsView, entries_at}
use Rattle.journals.specs.LegalJournals.{IsLegalShard, AreLegal}
use Rattle.audit.specs.declared.fault.AuditFault.{AuditFault}
use Rattle.audit.specs.declared.fault.AuditFault.TheVariants.{Illegal, Memory}

-- the journal is legal up to the entry at this place, and not with it
pub record IsFirstIllegal (plan : ShardPlan) (entries : List Entry) (place : ℕ) : Type 0 where
  pub within : place < length entries
  pub before : IsLegalJournal plan (take place entries)
  pub not_with : ¬ IsLegalJournal plan (take (place + 1) entries)

-- the shards before this one have legal journals, and its own is legal up to the entry at this place
pub record IsFirstIllegalShard (journals : JournalsView) (shard place : ℕ) : Type 0 where
  pub exists : shard < length journals.shards
  pub legal_before : (number : ℕ) → number < shard → IsLegalShard journals number
  pub plan : ShardPlan
  pub plan_is : plan_at journals.maps journals.options shard ≡ Some plan
  pub illegal : IsFirstIllegal plan (entries_at journals shard) place

-- why the journals were refused: the first entry that is not legal, or memory was refused
abbrev pub ExplainsJournals : JournalsView → AuditFault → Type 0
ExplainsJournals journals Memory = ⊤
ExplainsJournals journals (Illegal shard place) = IsFirstIllegalShard journals shard place × ¬ AreLegal journals
