use Rattle.std.proofs.Common.{◌≡◌, ◌<◌, ◌+◌, ◌-◌, ℕ, suc, List, [], ◌∷◌, length, refl, sym, ap, ◌∙◌, subst, arith}
use Rattle.atomic_table.specs.Table.{Me}
use Rattle.semantics.proofs.shared.EachLemmas.{set_count}
use Rattle.semantics.specs.declared.call.Caller.TheVariants.{Controller}
use Rattle.shards.specs.declared.deeds.Account.{Account}
use Rattle.shards.specs.declared.deeds.Deed.{Deed}
use Rattle.shards.specs.declared.deeds.OrderPart.TheVariants.{ByCaller}
use Rattle.shards.specs.LockRule.{caller_at}
use Rattle.shards.specs.OrderRule.{account, account_deeds, last_deeds, all_others, first_alone, callers_down, IsFresh}
use Rattle.shards.proofs.OrderMoves.{deals_one}
use Rattle.shards.proofs.OrderBeginning.{down_apart, gap, place_dealt}
use Rattle.shards.proofs.order.deal_again.Goals as goal

pub places-init : goal.places-init
places-init c = record {
  some = omega arith;
  few = (let some = c.requires.callers.0 in omega (arith, some));
  table_is = c.requires.table;
  counted = refl;
  has = λ others is. c.requires.all others (omega (arith, is));
  waiting = λ k later below. absurd (omega (arith, later, below));
}

pub split_seat-one-requires : goal.split_seat-one-requires
split_seat-one-requires c =
    let i = c.places.invariant in
    let deeds = last_deeds c.args.seat.now.me.0 in
    let more = gap c.args.callers c.places.done (let t = c.places-test.true in omega (arith, t)) in
    let left = more.0 in (
      i.table_is,
      c.requires.order,
      deals_one _ _ _ _ (account (ByCaller (caller_at (suc left))) []) (callers_down left deeds) (ap (λ (m : Me ℕ (List Account)). m.0) (i.has (suc left) more.1))
          (down_apart (suc left) left deeds (omega arith)),
    )

pub index_mut-requires : goal.index_mut-requires
index_mut-requires c =
    let i = c.places.invariant in
    (let some = i.some in let t = c.places-test.true in let enough = c.requires.callers.1 in let counted = i.counted in let ok = c.places.places.ok.0 in omega (arith, some, t, enough, counted, ok))

pub places-preserved : goal.places-preserved
places-preserved c =
    let i = c.places.invariant in
    let deeds = last_deeds c.args.seat.now.me.0 in
    let table = c.args.order.now.shared.table_id in
    let done = c.places.done in
    let below : done < c.args.callers = (let t = c.places-test.true in omega (arith, t)) in
    let more = gap c.args.callers done below in
    let left = more.0 in
    let place : c.args.callers - done ≡ suc left = (let is = more.1 in omega (arith, is)) in
    let was = i.has (suc left) more.1 in
    let badge = c.into_badge.ensures in
    let fresh : IsFresh table (ByCaller (caller_at (c.args.callers - done))) c.into_badge.result = record {
      table_is = badge.0 ∙ c.split_seat-one.ensures.3 ∙ i.table_is;
      knows = badge.2 ∙ ap (λ (m : Me ℕ (List Account)). m.0 ∷ []) (c.split_seat-one.ensures.4 ∙ ap (λ (m : Me ℕ (List Account)). (first_alone m.0, [])) was)
          ∙ ap (λ (n : ℕ). (account (ByCaller (caller_at n)) [] ∷ []) ∷ []) (sym place);
    } in record {
      some = (let some = i.some in omega (arith, some));
      few = omega (arith, below);
      table_is = c.split_seat-one.ensures.0 ∙ i.table_is;
      counted = set_count c.places.places.items (c.args.callers - done) _ ∙ i.counted;
      has = λ others is. let same : left ≡ others = (let all = more.1 in omega (arith, all, is)) in c.split_seat-one.ensures.2 ∙ ap (λ (m : Me ℕ (List Account)). (all_others m.0, m.1)) was
          ∙ ap (λ (n : ℕ). (callers_down n deeds, [])) same;
      waiting = place_dealt table c.args.callers done c.places.places.items (c.args.callers - done) c.replace-blank.new.dest (omega (arith, below))
          (let enough = c.requires.callers.1 in let counted = i.counted in let some = i.some in omega (arith, below, enough, counted, some))
          (subst (IsFresh table (ByCaller (caller_at (c.args.callers - done)))) (sym c.replace-blank.ensures.after) fresh) i.waiting;
    }

pub returns-clause-waiting : goal.returns-clause-waiting
returns-clause-waiting c =
    let i = c.places.invariant in
    λ k some below. (
      (let enough = c.requires.callers.1 in let counted = i.counted in omega (arith, below, enough, counted)),
      i.waiting k (let t = c.places-test.false in omega (arith, t, some, below)) below,
    )

pub returns-clause-seat : goal.returns-clause-seat
returns-clause-seat c =
    let i = c.places.invariant in
    let end = i.has 0 (let t = c.places-test.false in let few = i.few in omega (arith, t, few)) in (
      i.table_is,
      end ∙ ap (λ (l : List Deed). (account (ByCaller Controller) l ∷ [], [])) (sym (ap (λ (m : Me ℕ (List Account)). account_deeds m.0) end)),
    )

pub returns-clause-deeds : goal.returns-clause-deeds
returns-clause-deeds c =
    let i = c.places.invariant in
    ap (λ (m : Me ℕ (List Account)). account_deeds m.0) (i.has 0 (let t = c.places-test.false in let few = i.few in omega (arith, t, few)))
