use Rattle.std.proofs.Common.{◌≡◌, ◌<◌, ◌+◌, ℕ, List, [], ◌∷◌, length, length-append, refl, sym, ap, ◌∙◌, subst, arith}
use Rattle.semantics.specs.declared.plan.ShardPlan.{ShardPlan}
use Rattle.semantics.specs.Each.{Each}
use Rattle.shard_core.specs.JournaledShard.{JournaledShard, opened_shard}
use Rattle.shards.specs.Seats.{no_plan}
use Rattle.shards.specs.NewShards.{shard_at}
use Rattle.semantics.proofs.shared.EachLemmas.{each_push, each_none, or_within}
use Rattle.shards.proofs.opening.plans_of.Goals as goal

abbrev IsPlanAt : List JournaledShard → ℕ → ShardPlan → Type 0
IsPlanAt shards number plan = plan ≡ (shard_at shards number).plan

pub plans-init : goal.plans-init
plans-init c = record {
  counted = ap (λ xs. length xs) c.in_ok-plans.ensures.items;
  end_is = refl;
  room = (let enough = c.in_ok-plans.ensures.capacity in omega (arith, enough));
  are = subst (λ xs. Each (IsPlanAt c.args.shards.now) 0 xs) (sym c.in_ok-plans.ensures.items) (each_none (IsPlanAt c.args.shards.now) 0);
}

pub plans-preserved : goal.plans-preserved
plans-preserved c =
    let i = c.plans.invariant in
    let number = c.plans.number in
    let shards = c.args.shards.now in
    let below : number < length shards = (let t = c.plans-test.true in let e = i.end_is in omega (arith, t, e)) in
    let more = c.push_reserved.ensures.items in
    let one : IsPlanAt shards number c.plan.result.now =
    c.plan.ensures.plan ∙ ap (λ (s : JournaledShard). s.plan) (c.index-shards-number.is ∙ or_within shards _ (opened_shard no_plan) number below) in record {
      counted = ap (λ xs. length xs) more ∙ length-append c.plans.plans.items (c.plan.result.now ∷ []) ∙ ap (λ n. n + 1) i.counted;
      end_is = i.end_is;
      room = (let r = i.room in let grown = c.push_reserved.ensures.capacity in omega (arith, r, grown));
      are = subst (λ xs. Each (IsPlanAt shards) 0 xs) (sym more) (each_push (IsPlanAt shards) c.plans.plans.items number c.plan.result.now i.counted i.are one);
    }
