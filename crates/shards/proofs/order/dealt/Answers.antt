use Rattle.std.proofs.Common.{◌≡◌, ◌<◌, ◌+◌, ℕ, suc, List, [], ◌∷◌, drop, length, length-append, sym, ap, ◌∙◌, subst, arith}
use Rattle.atomic_table.specs.Table.{Me}
use Rattle.atomic_table.specs.declared.badge.Badge.{Badge}
use Rattle.semantics.proofs.shared.EachLemmas.{each_push, each_none}
use Rattle.shards.specs.declared.deeds.Account.{Account}
use Rattle.shards.specs.OrderRule.{account_at, all_others, first_alone, IsPlaced, ArePlaces}
use Rattle.shards.proofs.OrderMoves.{deals_one}
use Rattle.shards.proofs.OrderOpening.{rest_at, apart_at}
use Rattle.shards.proofs.order.dealt.Goals as goal

pub places-init : goal.places-init
places-init c = record {
  table_is = c.requires.seat.0;
  counted = ap (λ xs. length xs) c.in_ok-places.ensures.items;
  room = (let enough = c.in_ok-places.ensures.capacity in omega (arith, enough));
  me_is = λ i. (c.args.seat.now.me.0, c.requires.seat.1 i);
  places_are = subst (λ (l : List (Badge (List Account))). ArePlaces c.args.order.now.shared.table_id c.args.seat.now.me.0 l) (sym c.in_ok-places.ensures.items) (each_none (λ (number : ℕ) (place : Badge (List Account)). IsPlaced c.args.order.now.shared.table_id (account_at c.args.seat.now.me.0 number) place) 0);
}

pub split_seat-one-requires : goal.split_seat-one-requires
split_seat-one-requires c =
    let i = c.places.invariant in
    let v = c.args.seat.now.me.0 in
    let below : c.places.counter < length v = (let few = c.requires.count in let t = c.places-test.true in omega (arith, few, t)) in (
      i.table_is,
      c.requires.order,
      deals_one _ _ _ _ (account_at v c.places.counter) _ (ap (λ (m : Me ℕ (List Account)). m.0) i.me_is ∙ rest_at v c.places.counter below) (apart_at v c.places.counter below c.requires.apart),
    )

pub places-preserved : goal.places-preserved
places-preserved c =
    let i = c.places.invariant in
    let v = c.args.seat.now.me.0 in
    let k = c.places.counter in
    let table = c.args.order.now.shared.table_id in
    let below : k < length v = (let few = c.requires.count in let t = c.places-test.true in omega (arith, few, t)) in
    let was = i.me_is ∙ ap (λ (l : List Account). (l, [])) (rest_at v k below) in
    let grew : suc k ≡ k + 1 = omega arith in
    let more = c.push_reserved.ensures.items in
    let badge = c.into_badge.ensures in
    let one : IsPlaced table (account_at v k) c.into_badge.result = record {
      table_is = badge.0 ∙ c.split_seat-one.ensures.3 ∙ i.table_is;
      knows = badge.2 ∙ ap (λ (m : Me ℕ (List Account)). m.0 ∷ []) (c.split_seat-one.ensures.4 ∙ ap (λ (m : Me ℕ (List Account)). (first_alone m.0, [])) was);
    } in record {
      table_is = c.split_seat-one.ensures.0 ∙ i.table_is;
      counted = ap (λ xs. length xs) more ∙ length-append c.places.places.items (c.into_badge.result ∷ []) ∙ ap (λ n. n + 1) i.counted;
      room = (let r = i.room in let grown = c.push_reserved.ensures.capacity in omega (arith, r, grown));
      me_is = c.split_seat-one.ensures.2 ∙ ap (λ (m : Me ℕ (List Account)). (all_others m.0, m.1)) was ∙ ap (λ (n : ℕ). (drop n v, [])) grew;
      places_are = subst (λ (l : List (Badge (List Account))). ArePlaces table v l) (sym more)
          (each_push (λ (number : ℕ) (place : Badge (List Account)). IsPlaced table (account_at v number) place) c.places.places.items k c.into_badge.result i.counted i.places_are one);
    }
