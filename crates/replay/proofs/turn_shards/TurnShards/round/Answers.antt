use Rattle.replay.proofs.TurnLemmas.{few_shards, round_serves}
use Rattle.replay.proofs.turn_shards.TurnShards.round.Goals as goal

pub round_over-requires : goal.round_over-requires
round_over-requires c = few_shards _ _ _ c.self.invariant

pub invariant_of-self : goal.invariant_of-self
invariant_of-self c = record {
  options_fit = c.self.invariant.options_fit;
  maps_are = c.self.invariant.maps_are;
  serve = round_serves c.calls_keep_serving.ensures _ _ _ _ _ c.self.invariant.serve c.round_over.ensures;
}
