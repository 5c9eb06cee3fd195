use Rattle.std.proofs.Common.{◌≡◌, ℕ, List, length, refl, sym, ap, ◌∙◌, subst}
use Rattle.semantics.specs.declared.plan.ShardPlan.{ShardPlan}
use Rattle.semantics.specs.declared.options.Options.{Options}
use Rattle.semantics.specs.ShardPlan.{AreOptions, recorded}
use Rattle.semantics.specs.Each.{Each}
use Rattle.shards.specs.NewShards.{shard_at}
use Rattle.shard_core.specs.JournaledShard.{JournaledShard}
use Rattle.shards.specs.Opening.{AreOpened}
use Rattle.shards.proofs.shared.ImageMaps.{image_maps}
use Rattle.shards.proofs.Names.{numbers_when_opened}
use Rattle.shards.proofs.Openings.{unused_when_opened, is_opening}
use Rattle.shards.proofs.OrderPlans.{plans_made}
use Rattle.shards.proofs.opening.Opened.open_with.Goals as goal

pub new_shards-requires-clause-unused : goal.new_shards-requires-clause-unused
new_shards-requires-clause-unused c =
    unused_when_opened c.args.image.now.maps (recorded c.args.recording c.args.options) c.into_list-shards.result.items
    (subst (λ (ss : List JournaledShard). AreOpened c.args.image.now.maps (recorded c.args.recording c.args.options) ss) (sym c.into_list-shards.ensures) c.in_ok-open_with.ensures.opened)

pub new_shards-requires-clause-numbers : goal.new_shards-requires-clause-numbers
new_shards-requires-clause-numbers c =
    numbers_when_opened c.args.image.now.maps (recorded c.args.recording c.args.options) c.into_list-shards.result.items
    (subst (λ (ss : List JournaledShard). AreOpened c.args.image.now.maps (recorded c.args.recording c.args.options) ss) (sym c.into_list-shards.ensures) c.in_ok-open_with.ensures.opened)

pub invariant_of-result : goal.invariant_of-result
invariant_of-result c =
    let options : Options = c.recorded-options.result in
    let same : recorded c.args.recording c.args.options ≡ options = sym c.recorded-options.ensures.options in
    let opened : AreOpened c.args.image.now.maps options c.into_list-shards.result.items =
    subst (λ (o : Options). AreOpened c.args.image.now.maps o c.into_list-shards.result.items) same
    (subst (λ (ss : List JournaledShard). AreOpened c.args.image.now.maps (recorded c.args.recording c.args.options) ss) (sym c.into_list-shards.ensures) c.in_ok-open_with.ensures.opened) in
    let fit : AreOptions c.args.image.now.maps options = subst (λ (o : Options). AreOptions c.args.image.now.maps o) same c.in_ok-open_with.ensures.fit in
    let order = c.in_ok-order.ensures in
    let plans = order.plans in
    let shards = c.into_list-shards.result.items in
    let counted : length c.in_ok-plans.plans.items ≡ length shards = c.in_ok-plans.ensures.count ∙ ap (λ (l : List JournaledShard). length l) c.deref.ensures.value in
    let each : Each (λ (number : ℕ) (plan : ShardPlan). plan ≡ (shard_at shards number).plan) 0 c.in_ok-plans.plans.items =
    subst (λ (l : List JournaledShard). Each (λ (number : ℕ) (plan : ShardPlan). plan ≡ (shard_at l number).plan) 0 c.in_ok-plans.plans.items) c.deref.ensures.value c.in_ok-plans.ensures.plans in (
      is_opening c.args.image.now.maps c.in_ok-maps.maps.items options c.in_ok-order.order.shared.table_id c.into_list-shards.result.items _ c.in_ok-shards.shards.items
          (image_maps c.args.image.now.version c.args.image.now.maps c.args.image.now.code c.maps.ensures.encodable) fit opened (c.in_ok-maps.ensures ∙ c.maps.ensures.maps) refl c.in_ok-shards.ensures.count c.in_ok-shards.ensures.made,
      record {
        order_is = record {
          table_is = refl;
          some_word = order.words.0;
          no_slot = order.words.1;
          sized = ap (λ (l : List ShardPlan). length l) plans ∙ counted ∙ sym c.in_ok-shards.ensures.count;
          plans = plans_made shards _ _ c.in_ok-plans.plans.items c.in_ok-order.order.shared.key.plans.items c.in_ok-shards.shards.items plans counted each c.in_ok-shards.ensures.count c.in_ok-shards.ensures.made;
          callers_are = order.key;
        };
        counted = order.callers.0;
        fresh = order.callers.1;
      },
    )
