use Rattle.std.proofs.Common.{sym, ap, ◌∙◌}
use Rattle.semantics.specs.declared.plan.ShardPlan.{ShardPlan}
use Rattle.semantics.specs.Replay.{is_keyed}
use Rattle.replay.proofs.TurnLemmas.{part_skipped}
use Rattle.replay.proofs.turn_shards.part_of_round.Goals as goal

pub returns-else-is_keyed : goal.returns-else-is_keyed
returns-else-is_keyed c =
    part_skipped c.args.shards.now c.args.number c.shard-one.result.now c.shard-one.ensures.value
    (ap (λ (plan : ShardPlan). is_keyed plan.definition.kind) (sym c.plan.ensures.plan) ∙ sym c.is_keyed.ensures ∙ c.if-is_keyed.false)
