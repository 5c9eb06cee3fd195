-- A shard that is lent.
use Rattle.std.specs.Prelude.{ℕ, List, slice_set}
use Rattle.std.specs.Borrow.{Lends, MutBor, Fml}
use Rattle.shard_core.specs.JournaledShard.{JournaledShard}
use Rattle.shard_core.specs.contracts.shard.Shard as shard
use Rattle.shards.specs.contracts.plain_shards.PlainShards as opened

-- r lends the shard of this number: what is last left behind r is there then, and the others stay
abbrev pub LendsShard : MutBor (List JournaledShard) → ℕ → MutBor JournaledShard → Fml
LendsShard shards number r = Lends opened.the_row shard.the_row shards r (slice_set shards.now number)
