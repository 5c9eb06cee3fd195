use Rattle.replay.proofs.TurnLemmas.{unchanged_at}
use Rattle.replay.proofs.turn_shards.update_at.Goals as goal

pub returns-clause-unchanged : goal.returns-clause-unchanged
returns-clause-unchanged c =
    unchanged_at c.args.shards.now c.args.number c.shard-one.result.now c.update.new.self c.update.result c.shard-one.ensures.value
    c.update.ensures.refused_unchanged
