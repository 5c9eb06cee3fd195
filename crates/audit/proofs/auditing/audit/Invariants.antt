use Rattle.std.proofs.Common.{ℕ, ◌<◌}
use Rattle.journals.specs.LegalJournals.{IsLegalShard}
use Rattle.audit.proofs.auditing.audit.Given as goal

abbrev pub invariant-shards : goal.invariant-shards
invariant-shards l = (k : ℕ) → k < l.number → IsLegalShard l.journals k
