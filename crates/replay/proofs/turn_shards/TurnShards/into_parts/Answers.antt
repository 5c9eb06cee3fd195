use Rattle.replay.proofs.PlanCodes.{plans_served}
use Rattle.replay.proofs.TurnLemmas.{count_of}
use Rattle.replay.proofs.turn_shards.TurnShards.into_parts.Goals as goal

pub returns-clause-are : goal.returns-clause-are
returns-clause-are c =
    let i = c.self.invariant in
    record { maps_are = i.maps_are; options_fit = i.options_fit; one_each = count_of _ _ _ i.serve }

pub returns-clause-planned : goal.returns-clause-planned
returns-clause-planned c = plans_served _ _ _ c.self.invariant.serve
