use Rattle.shards.proofs.ShardPassLemmas.{new_part}
use Rattle.shards.proofs.shard_pass.ShardPass.new.Goals as goal

pub invariant_of-result : goal.invariant_of-result
invariant_of-result c = new_part c.args.seat c.args.held c.requires.seat c.requires.none c.requires.room
