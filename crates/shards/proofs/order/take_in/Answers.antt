use Rattle.std.proofs.Common.{◌≡◌, ◌<◌, ◌+◌, ℕ, [], length, refl, sym, ap, ◌∙◌, subst, arith}
use Rattle.atomic_table.specs.declared.badge.Badge.{Badge}
use Rattle.semantics.proofs.shared.EachLemmas.{set_count}
use Rattle.shards.specs.declared.deeds.OrderPart.TheVariants.{ByCaller}
use Rattle.shards.specs.LockRule.{caller_at}
use Rattle.shards.specs.OrderRule.{account_deeds, callers_down, HasAllOf}
use Rattle.shards.proofs.OrderBeginning.{taken_more, place_taken, waits_there, seat_from}
use Rattle.shards.proofs.order.take_in.Goals as goal

pub places-init : goal.places-init
places-init c = record {
  some = omega arith;
  few = (let some = c.requires.some in omega (arith, some));
  table_is = c.requires.seat.0;
  counted = refl;
  has = λ others is. let same : 0 ≡ others = omega (arith, is) in c.requires.seat.1 ∙ ap (λ (n : ℕ). (callers_down n (account_deeds c.args.seat.now.me.0), [])) same;
  left = λ k later. refl;
}

pub index_mut-requires : goal.index_mut-requires
index_mut-requires c =
    let i = c.places.invariant in
    let there = (c.requires.waiting c.places.place i.some (let t = c.places-test.true in omega (arith, t))).0 in
    (let counted = i.counted in let ok = c.places.places.ok.0 in omega (arith, there, counted, ok))

pub into_seat-requires : goal.into_seat-requires
into_seat-requires c =
    let i = c.places.invariant in
    let place = c.places.place in
    let below : place < c.args.callers = (let t = c.places-test.true in omega (arith, t)) in
    let within : place < length c.places.places.items =
    (let there = (c.requires.waiting place i.some below).0 in let counted = i.counted in omega (arith, there, counted)) in
    let fresh = waits_there c.args.order.now.shared.table_id c.args.callers c.args.places.now.items c.places.places.items place c.index_mut.result.now c.replace-waiting.result
    c.requires.waiting (i.left place (omega arith)) i.some below within c.index_mut.ensures.value c.replace-waiting.ensures.value in
    (_, fresh.knows)

pub gather-requires-clause-other : goal.gather-requires-clause-other
gather-requires-clause-other c =
    let i = c.places.invariant in
    let place = c.places.place in
    let below : place < c.args.callers = (let t = c.places-test.true in omega (arith, t)) in
    let within : place < length c.places.places.items =
    (let there = (c.requires.waiting place i.some below).0 in let counted = i.counted in omega (arith, there, counted)) in
    let fresh = waits_there c.args.order.now.shared.table_id c.args.callers c.args.places.now.items c.places.places.items place c.index_mut.result.now c.replace-waiting.result
    c.requires.waiting (i.left place (omega arith)) i.some below within c.index_mut.ensures.value c.replace-waiting.ensures.value in
    let seat = c.into_seat.ensures in
    (ByCaller (caller_at place), (seat_from c.args.order.now.shared.table_id (ByCaller (caller_at place)) c.replace-waiting.result c.into_seat.result fresh seat.0 seat.2 seat.3).0)

pub places-preserved : goal.places-preserved
places-preserved c =
    let i = c.places.invariant in
    let place = c.places.place in
    let table = c.args.order.now.shared.table_id in
    let below : place < c.args.callers = (let t = c.places-test.true in omega (arith, t)) in
    let within : place < length c.places.places.items =
    (let there = (c.requires.waiting place i.some below).0 in let counted = i.counted in omega (arith, there, counted)) in
    let fresh = waits_there table c.args.callers c.args.places.now.items c.places.places.items place c.index_mut.result.now c.replace-waiting.result
    c.requires.waiting (i.left place (omega arith)) i.some below within c.index_mut.ensures.value c.replace-waiting.ensures.value in
    let seat = c.into_seat.ensures in
    let there = (seat_from table (ByCaller (caller_at place)) c.replace-waiting.result c.into_seat.result fresh seat.0 seat.2 seat.3).1 in record {
      some = (let some = i.some in omega (arith, some));
      few = omega (arith, below);
      table_is = c.gather.ensures.table;
      counted = set_count c.places.places.items place _ ∙ i.counted;
      has = taken_more place (account_deeds c.args.seat.now.me.0) c.places.seat.me c.gather.new.seat.me c.into_seat.result.me i.some i.has c.gather.ensures.both there;
      left = place_taken table c.args.callers c.args.places.now.items c.places.places.items place _ i.counted i.left;
    }

pub returns-clause-all : goal.returns-clause-all
returns-clause-all c =
    let i = c.places.invariant in
    let whole : c.places.place ≡ c.args.callers = (let few = i.few in let t = c.places-test.false in omega (arith, few, t)) in
    subst (λ (n : ℕ). HasAllOf n (account_deeds c.args.seat.now.me.0) c.places.seat.me) whole i.has
