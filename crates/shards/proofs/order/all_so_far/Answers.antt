use Rattle.std.proofs.Common.{◌≡◌, ℕ, List, [], ◌∷◌, sym, ap, ◌∙◌, subst}
use Rattle.atomic_table.specs.Table.{Me}
use Rattle.shards.specs.declared.deeds.Account.{Account}
use Rattle.shards.specs.declared.deeds.Deed.{Deed}
use Rattle.shards.specs.declared.deeds.OrderPart.TheVariants.{ByCaller, AtFirst}
use Rattle.shards.specs.Deeds.{deeds_of, AreFirst}
use Rattle.shards.specs.OrderRule.{account, account_deeds, all_others, first_alone}
use Rattle.shards.proofs.OrderMoves.{takes_one, deals_one, both_are, sits_so}
use Rattle.shards.proofs.OrderSoFar.{with_earlier, sees_so_far, above_caller, above_both, knows_so_far, parts_so_far}
use Rattle.shards.proofs.order.all_so_far.Goals as goal

pub join_seat-requires : goal.join_seat-requires
join_seat-requires c =
    let r = c.requires in
    let is = r.earlier.1 in
    (r.mine.0, r.earlier.0, ap (λ m. m.1) is, r.order, takes_one _ _ _ _ _ _ (account AtFirst (account_deeds c.args.earlier.me.0)) (ap (λ m. m.0) is))

pub load-requires : goal.load-requires
load-requires c =
    let r = c.requires in
    let earlier = account_deeds c.args.earlier.me.0 in
    let deeds = account_deeds c.args.mine.now.me.0 in
    let joined : c.join_seat.new.seat.me ≡ (with_earlier earlier c.args.who deeds, []) =
    c.join_seat.ensures.2 ∙ both_are c.args.mine.now.me c.args.earlier.me.0 (account AtFirst earlier) (account (ByCaller c.args.who) deeds) r.mine.1 (ap (λ m. m.0) r.earlier.1) in
    (c.join_seat.ensures.0 ∙ r.mine.0, r.order, sees_so_far _ _ _ _ _ _ (with_earlier earlier c.args.who deeds) joined)

pub split_seat-all-requires : goal.split_seat-all-requires
split_seat-all-requires c =
    let r = c.requires in
    let earlier = account_deeds c.args.earlier.me.0 in
    let deeds = account_deeds c.args.mine.now.me.0 in
    let joined : c.join_seat.new.seat.me ≡ (with_earlier earlier c.args.who deeds, []) =
    c.join_seat.ensures.2 ∙ both_are c.args.mine.now.me c.args.earlier.me.0 (account AtFirst earlier) (account (ByCaller c.args.who) deeds) r.mine.1 (ap (λ m. m.0) r.earlier.1) in
    let saw = c.load.ensures.2 in
    let knows = knows_so_far c.join_seat.new.seat.me c.load.new.seat.me earlier c.args.who deeds joined saw in (
      c.load.ensures.0 ∙ c.join_seat.ensures.0 ∙ r.mine.0,
      r.order,
      deals_one _ _ _ _ (account AtFirst saw.0) (with_earlier earlier c.args.who deeds) (ap (λ (m : Me ℕ (List Account)). m.0) knows)
          (above_both earlier c.args.who deeds),
    )

pub split_seat-earlier-requires : goal.split_seat-earlier-requires
split_seat-earlier-requires c =
    let r = c.requires in
    let earlier = account_deeds c.args.earlier.me.0 in
    let deeds = account_deeds c.args.mine.now.me.0 in
    let joined : c.join_seat.new.seat.me ≡ (with_earlier earlier c.args.who deeds, []) =
    c.join_seat.ensures.2 ∙ both_are c.args.mine.now.me c.args.earlier.me.0 (account AtFirst earlier) (account (ByCaller c.args.who) deeds) r.mine.1 (ap (λ m. m.0) r.earlier.1) in
    let knows = knows_so_far c.join_seat.new.seat.me c.load.new.seat.me earlier c.args.who deeds joined c.load.ensures.2 in
    let left : c.split_seat-all.new.seat.me ≡ (with_earlier earlier c.args.who deeds, []) =
    c.split_seat-all.ensures.2 ∙ ap (λ (m : Me ℕ (List Account)). (all_others m.0, m.1)) knows in (
      c.split_seat-all.ensures.0 ∙ c.load.ensures.0 ∙ c.join_seat.ensures.0 ∙ r.mine.0,
      r.order,
      deals_one _ _ _ _ (account AtFirst earlier) (account (ByCaller c.args.who) deeds ∷ []) (ap (λ (m : Me ℕ (List Account)). m.0) left)
          (above_caller c.args.who deeds),
    )

pub returns-clause-mine : goal.returns-clause-mine
returns-clause-mine c =
    let r = c.requires in
    let earlier = account_deeds c.args.earlier.me.0 in
    let deeds = account_deeds c.args.mine.now.me.0 in
    let joined : c.join_seat.new.seat.me ≡ (with_earlier earlier c.args.who deeds, []) =
    c.join_seat.ensures.2 ∙ both_are c.args.mine.now.me c.args.earlier.me.0 (account AtFirst earlier) (account (ByCaller c.args.who) deeds) r.mine.1 (ap (λ m. m.0) r.earlier.1) in
    let knows = knows_so_far c.join_seat.new.seat.me c.load.new.seat.me earlier c.args.who deeds joined c.load.ensures.2 in
    let left : c.split_seat-all.new.seat.me ≡ (with_earlier earlier c.args.who deeds, []) =
    c.split_seat-all.ensures.2 ∙ ap (λ (m : Me ℕ (List Account)). (all_others m.0, m.1)) knows in (
      c.split_seat-earlier.ensures.0 ∙ c.split_seat-all.ensures.0 ∙ c.load.ensures.0 ∙ c.join_seat.ensures.0 ∙ r.mine.0,
      (sits_so _ (ByCaller c.args.who) deeds (c.split_seat-earlier.ensures.2 ∙ ap (λ (m : Me ℕ (List Account)). (all_others m.0, m.1)) left)).0,
    )

pub returns-clause-same : goal.returns-clause-same
returns-clause-same c =
    let r = c.requires in
    let earlier = account_deeds c.args.earlier.me.0 in
    let deeds = account_deeds c.args.mine.now.me.0 in
    let joined : c.join_seat.new.seat.me ≡ (with_earlier earlier c.args.who deeds, []) =
    c.join_seat.ensures.2 ∙ both_are c.args.mine.now.me c.args.earlier.me.0 (account AtFirst earlier) (account (ByCaller c.args.who) deeds) r.mine.1 (ap (λ m. m.0) r.earlier.1) in
    let knows = knows_so_far c.join_seat.new.seat.me c.load.new.seat.me earlier c.args.who deeds joined c.load.ensures.2 in
    let left : c.split_seat-all.new.seat.me ≡ (with_earlier earlier c.args.who deeds, []) =
    c.split_seat-all.ensures.2 ∙ ap (λ (m : Me ℕ (List Account)). (all_others m.0, m.1)) knows in
    (sits_so _ (ByCaller c.args.who) deeds (c.split_seat-earlier.ensures.2 ∙ ap (λ (m : Me ℕ (List Account)). (all_others m.0, m.1)) left)).1

pub returns-clause-first : goal.returns-clause-first
returns-clause-first c =
    let r = c.requires in
    let earlier = account_deeds c.args.earlier.me.0 in
    let deeds = account_deeds c.args.mine.now.me.0 in
    let joined : c.join_seat.new.seat.me ≡ (with_earlier earlier c.args.who deeds, []) =
    c.join_seat.ensures.2 ∙ both_are c.args.mine.now.me c.args.earlier.me.0 (account AtFirst earlier) (account (ByCaller c.args.who) deeds) r.mine.1 (ap (λ m. m.0) r.earlier.1) in
    let saw = c.load.ensures.2 in
    let knows = knows_so_far c.join_seat.new.seat.me c.load.new.seat.me earlier c.args.who deeds joined saw in (
      c.split_seat-all.ensures.3 ∙ c.load.ensures.0 ∙ c.join_seat.ensures.0 ∙ r.mine.0,
      (sits_so _ AtFirst saw.0 (c.split_seat-all.ensures.4 ∙ ap (λ (m : Me ℕ (List Account)). (first_alone m.0, [])) knows)).0,
    )

pub returns-clause-later : goal.returns-clause-later
returns-clause-later c =
    let r = c.requires in
    let earlier = account_deeds c.args.earlier.me.0 in
    let deeds = account_deeds c.args.mine.now.me.0 in
    let joined : c.join_seat.new.seat.me ≡ (with_earlier earlier c.args.who deeds, []) =
    c.join_seat.ensures.2 ∙ both_are c.args.mine.now.me c.args.earlier.me.0 (account AtFirst earlier) (account (ByCaller c.args.who) deeds) r.mine.1 (ap (λ m. m.0) r.earlier.1) in
    let saw = c.load.ensures.2 in
    let knows = knows_so_far c.join_seat.new.seat.me c.load.new.seat.me earlier c.args.who deeds joined saw in
    subst (λ (l : List Deed). AreFirst earlier l)
    (sym (sits_so _ AtFirst saw.0 (c.split_seat-all.ensures.4 ∙ ap (λ (m : Me ℕ (List Account)). (first_alone m.0, [])) knows)).1)
    (parts_so_far c.join_seat.new.seat.me c.load.new.seat.me earlier c.args.who deeds joined saw).0

pub returns-clause-own : goal.returns-clause-own
returns-clause-own c =
    let r = c.requires in
    let earlier = account_deeds c.args.earlier.me.0 in
    let deeds = account_deeds c.args.mine.now.me.0 in
    let joined : c.join_seat.new.seat.me ≡ (with_earlier earlier c.args.who deeds, []) =
    c.join_seat.ensures.2 ∙ both_are c.args.mine.now.me c.args.earlier.me.0 (account AtFirst earlier) (account (ByCaller c.args.who) deeds) r.mine.1 (ap (λ m. m.0) r.earlier.1) in
    let saw = c.load.ensures.2 in
    let knows = knows_so_far c.join_seat.new.seat.me c.load.new.seat.me earlier c.args.who deeds joined saw in
    subst (λ (l : List Deed). deeds ≡ deeds_of (ByCaller c.args.who) l)
    (sym (sits_so _ AtFirst saw.0 (c.split_seat-all.ensures.4 ∙ ap (λ (m : Me ℕ (List Account)). (first_alone m.0, [])) knows)).1)
    (parts_so_far c.join_seat.new.seat.me c.load.new.seat.me earlier c.args.who deeds joined saw).1
