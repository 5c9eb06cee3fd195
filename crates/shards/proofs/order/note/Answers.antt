use Rattle.std.proofs.Common.{◌≡◌, ℕ, List, ◌∷◌, [], sym, ap, ◌∙◌}
use Rattle.atomic_table.specs.Table.{Me}
use Rattle.atomic_table.specs.declared.badge.Badge.{Badge}
use Rattle.shards.specs.declared.deeds.Account.{Account}
use Rattle.shards.specs.declared.deeds.OrderPart.TheVariants.{OnShard, ByCaller}
use Rattle.shards.specs.Deeds.{shard_of_deed, caller_of_deed}
use Rattle.shards.specs.OrderRule.{account, deeds_at, account_deeds, noted, all_others, first_alone}
use Rattle.shards.proofs.OrderMoves.{takes_one, deals_one, adds_one, the_two, two_parts, view_there, both_are, rests_so, sits_so}
use Rattle.shards.proofs.order.note.Goals as goal

pub join_seat-requires : goal.join_seat-requires
join_seat-requires g c =
    let r = c.requires in
    let i = c.into_seat-seat.ensures in
    let was = c.replace.ensures.value in
    let shard = OnShard (shard_of_deed g.D.Item.item) in (
      r.mine.0,
      i.0 ∙ ap (λ (b : Badge (List Account)). b.table_id) was ∙ r.place.0,
      i.3,
      r.order,
      takes_one _ _ _ _ _ _ (account shard (deeds_at c.args.place.now))
          (view_there c.args.place.now c.into_seat-seat.result.me.0 shard (ap (λ (b : Badge (List Account)). b.views) (sym was) ∙ i.2) r.place.1),
    )

pub load-requires : goal.load-requires
load-requires g c =
    let r = c.requires in
    let i = c.into_seat-seat.ensures in
    let was = c.replace.ensures.value in
    let item = g.D.Item.item in
    let shard = OnShard (shard_of_deed item) in
    let there = deeds_at c.args.place.now in
    let by = account_deeds c.args.mine.now.me.0 in
    let w_is : c.into_seat-seat.result.me.0 ≡ account shard there ∷ [] =
    view_there c.args.place.now c.into_seat-seat.result.me.0 shard (ap (λ (b : Badge (List Account)). b.views) (sym was) ∙ i.2) r.place.1 in
    let joined : c.join_seat.new.seat.me ≡ (the_two item there by, []) =
    c.join_seat.ensures.2 ∙ both_are c.args.mine.now.me c.into_seat-seat.result.me.0 (account shard there) (account (ByCaller (caller_of_deed item)) by) r.mine.1 w_is in
    (c.join_seat.ensures.0 ∙ r.mine.0, r.order, adds_one _ _ _ _ _ _ item there by joined r.within r.met)

pub split_seat-requires : goal.split_seat-requires
split_seat-requires g c =
    let r = c.requires in
    let i = c.into_seat-seat.ensures in
    let was = c.replace.ensures.value in
    let item = g.D.Item.item in
    let shard = OnShard (shard_of_deed item) in
    let there = deeds_at c.args.place.now in
    let by = account_deeds c.args.mine.now.me.0 in
    let w_is : c.into_seat-seat.result.me.0 ≡ account shard there ∷ [] =
    view_there c.args.place.now c.into_seat-seat.result.me.0 shard (ap (λ (b : Badge (List Account)). b.views) (sym was) ∙ i.2) r.place.1 in
    let joined : c.join_seat.new.seat.me ≡ (the_two item there by, []) =
    c.join_seat.ensures.2 ∙ both_are c.args.mine.now.me c.into_seat-seat.result.me.0 (account shard there) (account (ByCaller (caller_of_deed item)) by) r.mine.1 w_is in
    let loaded : c.load.new.seat.me ≡ (noted item (the_two item there by), []) =
    c.load.ensures.2 ∙ ap (λ (m : Me ℕ (List Account)). (noted item m.0, m.1)) joined in (
      c.load.ensures.0 ∙ c.join_seat.ensures.0 ∙ r.mine.0,
      r.order,
      deals_one _ _ _ _ (account shard (item ∷ there)) (account (ByCaller (caller_of_deed item)) (item ∷ by) ∷ [])
          (ap (λ (m : Me ℕ (List Account)). m.0) loaded) (two_parts (shard_of_deed item) (caller_of_deed item) (item ∷ by)),
    )

pub returns-clause-place : goal.returns-clause-place
returns-clause-place g c =
    let r = c.requires in
    let i = c.into_seat-seat.ensures in
    let was = c.replace.ensures.value in
    let item = g.D.Item.item in
    let shard = OnShard (shard_of_deed item) in
    let there = deeds_at c.args.place.now in
    let by = account_deeds c.args.mine.now.me.0 in
    let w_is : c.into_seat-seat.result.me.0 ≡ account shard there ∷ [] =
    view_there c.args.place.now c.into_seat-seat.result.me.0 shard (ap (λ (b : Badge (List Account)). b.views) (sym was) ∙ i.2) r.place.1 in
    let joined : c.join_seat.new.seat.me ≡ (the_two item there by, []) =
    c.join_seat.ensures.2 ∙ both_are c.args.mine.now.me c.into_seat-seat.result.me.0 (account shard there) (account (ByCaller (caller_of_deed item)) by) r.mine.1 w_is in
    let loaded : c.load.new.seat.me ≡ (noted item (the_two item there by), []) =
    c.load.ensures.2 ∙ ap (λ (m : Me ℕ (List Account)). (noted item m.0, m.1)) joined in (
      c.into_badge.ensures.0 ∙ c.split_seat.ensures.3 ∙ c.load.ensures.0 ∙ c.join_seat.ensures.0 ∙ r.mine.0,
      (rests_so _ shard (item ∷ there) (c.into_badge.ensures.2 ∙ ap (λ (m : Me ℕ (List Account)). m.0 ∷ []) (c.split_seat.ensures.4 ∙ ap (λ (m : Me ℕ (List Account)). (first_alone m.0, [])) loaded))).0,
    )

pub returns-clause-noted : goal.returns-clause-noted
returns-clause-noted g c =
    let r = c.requires in
    let i = c.into_seat-seat.ensures in
    let was = c.replace.ensures.value in
    let item = g.D.Item.item in
    let shard = OnShard (shard_of_deed item) in
    let there = deeds_at c.args.place.now in
    let by = account_deeds c.args.mine.now.me.0 in
    let w_is : c.into_seat-seat.result.me.0 ≡ account shard there ∷ [] =
    view_there c.args.place.now c.into_seat-seat.result.me.0 shard (ap (λ (b : Badge (List Account)). b.views) (sym was) ∙ i.2) r.place.1 in
    let joined : c.join_seat.new.seat.me ≡ (the_two item there by, []) =
    c.join_seat.ensures.2 ∙ both_are c.args.mine.now.me c.into_seat-seat.result.me.0 (account shard there) (account (ByCaller (caller_of_deed item)) by) r.mine.1 w_is in
    let loaded : c.load.new.seat.me ≡ (noted item (the_two item there by), []) =
    c.load.ensures.2 ∙ ap (λ (m : Me ℕ (List Account)). (noted item m.0, m.1)) joined in
    (rests_so _ shard (item ∷ there) (c.into_badge.ensures.2 ∙ ap (λ (m : Me ℕ (List Account)). m.0 ∷ []) (c.split_seat.ensures.4 ∙ ap (λ (m : Me ℕ (List Account)). (first_alone m.0, [])) loaded))).1

pub returns-clause-mine : goal.returns-clause-mine
returns-clause-mine g c =
    let r = c.requires in
    let i = c.into_seat-seat.ensures in
    let was = c.replace.ensures.value in
    let item = g.D.Item.item in
    let shard = OnShard (shard_of_deed item) in
    let there = deeds_at c.args.place.now in
    let by = account_deeds c.args.mine.now.me.0 in
    let w_is : c.into_seat-seat.result.me.0 ≡ account shard there ∷ [] =
    view_there c.args.place.now c.into_seat-seat.result.me.0 shard (ap (λ (b : Badge (List Account)). b.views) (sym was) ∙ i.2) r.place.1 in
    let joined : c.join_seat.new.seat.me ≡ (the_two item there by, []) =
    c.join_seat.ensures.2 ∙ both_are c.args.mine.now.me c.into_seat-seat.result.me.0 (account shard there) (account (ByCaller (caller_of_deed item)) by) r.mine.1 w_is in
    let loaded : c.load.new.seat.me ≡ (noted item (the_two item there by), []) =
    c.load.ensures.2 ∙ ap (λ (m : Me ℕ (List Account)). (noted item m.0, m.1)) joined in (
      c.split_seat.ensures.0 ∙ c.load.ensures.0 ∙ c.join_seat.ensures.0 ∙ r.mine.0,
      (sits_so _ (ByCaller (caller_of_deed item)) (item ∷ by) (c.split_seat.ensures.2 ∙ ap (λ (m : Me ℕ (List Account)). (all_others m.0, m.1)) loaded)).0,
    )

pub returns-clause-did : goal.returns-clause-did
returns-clause-did g c =
    let r = c.requires in
    let i = c.into_seat-seat.ensures in
    let was = c.replace.ensures.value in
    let item = g.D.Item.item in
    let shard = OnShard (shard_of_deed item) in
    let there = deeds_at c.args.place.now in
    let by = account_deeds c.args.mine.now.me.0 in
    let w_is : c.into_seat-seat.result.me.0 ≡ account shard there ∷ [] =
    view_there c.args.place.now c.into_seat-seat.result.me.0 shard (ap (λ (b : Badge (List Account)). b.views) (sym was) ∙ i.2) r.place.1 in
    let joined : c.join_seat.new.seat.me ≡ (the_two item there by, []) =
    c.join_seat.ensures.2 ∙ both_are c.args.mine.now.me c.into_seat-seat.result.me.0 (account shard there) (account (ByCaller (caller_of_deed item)) by) r.mine.1 w_is in
    let loaded : c.load.new.seat.me ≡ (noted item (the_two item there by), []) =
    c.load.ensures.2 ∙ ap (λ (m : Me ℕ (List Account)). (noted item m.0, m.1)) joined in
    (sits_so _ (ByCaller (caller_of_deed item)) (item ∷ by) (c.split_seat.ensures.2 ∙ ap (λ (m : Me ℕ (List Account)). (all_others m.0, m.1)) loaded)).1
