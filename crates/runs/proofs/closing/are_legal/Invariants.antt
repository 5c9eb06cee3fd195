use Rattle.std.proofs.Common.{◌≡◌, ◌<◌, ℕ, length}
use Rattle.semantics.specs.History.{IsLegalJournal}
use Rattle.shards.specs.NewShards.{shard_at}
use Rattle.runs.proofs.closing.are_legal.Given as goal

pub record Read (l : goal.Live-shards) : Type 0 where
  pub end_is : l.number-end ≡ length l.shards
  pub legal : (k : ℕ) → k < l.number → IsLegalJournal (shard_at l.shards k).plan (shard_at l.shards k).journal

abbrev pub invariant-shards : goal.invariant-shards
invariant-shards l = Read l
