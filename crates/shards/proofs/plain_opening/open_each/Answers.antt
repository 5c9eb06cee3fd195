use Rattle.std.proofs.Common.{◌≡◌, ◌+◌, ◌∷◌, ◌++◌, [], length, ap, ◌∙◌}
use Rattle.std.specs.Prelude.{Some}
use Rattle.std.proofs.lemmas.List.{length-append}
use Rattle.semantics.specs.ShardPlan.{plan_at}
use Rattle.shard_core.specs.JournaledShard.{opened_shard}
use Rattle.shards.proofs.PlainOpenings.{one_more_opened}
use Rattle.shards.proofs.plain_opening.open_each.Goals as goal

pub loop-number-preserved : goal.loop-number-preserved
loop-number-preserved c =
    let planned : Some c.plan_at.result ≡ plan_at c.args.maps.now c.args.options.now (length c.loop-number.shards.items) = rw c.loop-number.invariant.count c.plan_at.ensures.plan in
    let pushed : c.push.new.self.items ≡ c.loop-number.shards.items ++ opened_shard c.plan_at.result ∷ [] = c.in_ok-push.ensures.items ∙ ap (λ shard. c.loop-number.shards.items ++ shard ∷ []) c.in_ok-shard.ensures in
    rw pushed (record {
      count = length-append c.loop-number.shards.items (opened_shard c.plan_at.result ∷ []) ∙ ap (λ n. n + 1) c.loop-number.invariant.count;
      each = one_more_opened c.args.maps.now c.args.options.now c.loop-number.shards.items c.plan_at.result planned c.loop-number.invariant.each;
    })
