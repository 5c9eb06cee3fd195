use Rattle.std.proofs.Common.{◌∙◌}
use Rattle.replay.proofs.TurnLemmas.{part_count, round_more}
use Rattle.replay.proofs.turn_shards.round_over.Goals as goal

pub shards-preserved : goal.shards-preserved
shards-preserved c =
    let i = c.shards.invariant in
    let before = c.shards.shards in
    let after = c.part_of_round.new.shards in
    record {
      end_is = i.end_is;
      count = part_count _ c.shards.number before after c.part_of_round.ensures ∙ i.count;
      round = round_more c.shards.number c.args.shards.now before after i.round c.part_of_round.ensures;
    }
