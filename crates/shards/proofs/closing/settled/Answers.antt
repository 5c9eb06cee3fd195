use Rattle.std.proofs.Common.{◌≡◌, ◌<◌, ◌+◌, ℕ, List, [], ◌∷◌, length, sym, ap, ◌∙◌, subst, arith}
use Rattle.std.specs.Prelude.{reverse}
use Rattle.atomic_table.specs.Table.{Me}
use Rattle.semantics.specs.declared.call.Entry.{Entry}
use Rattle.semantics.specs.History.{IsLegalHistory}
use Rattle.shards.specs.declared.deeds.OrderPart.TheVariants.{OnShard}
use Rattle.shards.specs.GuardedView.{KeyedPlan, GuardedView, keyed}
use Rattle.shards.specs.OrderRule.{account, deeds_at, account_deeds}
use Rattle.shards.proofs.OrderClosing.{gathered, seat_of_place}
use Rattle.shards.specs.declared.rule.Known.{Known}
use Rattle.shards.specs.Passes.{no_pass, pass_at, view_at}
use Rattle.shards.specs.Seats.{view_of}
use Rattle.semantics.proofs.shared.EachLemmas.{or_within, set_count}
use Rattle.shards.proofs.Holding.{visitor_same}
use Rattle.shards.proofs.Settling.{IsShown, shown_more, left_less, callers_stay, deeds_stay, others_stay, settled_by}
use Rattle.shards.proofs.closing.settled.Goals as goal

pub passes-preserved : goal.passes-preserved
passes-preserved g c =
    let i = c.passes.invariant in
    let old = c.args.passes.now.items in
    let now = c.passes.passes.items in
    let place = c.passes.place in
    let number = c.args.number in
    let before = c.index_mut.result.now in
    let after = c.see.new.self in
    let below : place < length now = (let t = c.passes-test.true in let e = i.end_is in let n = i.count in omega (arith, t, e, n)) in
    let is = c.index_mut.ensures.value ∙ sym (or_within now no_pass before place below) in
    let untouched = i.left place (omega arith) in
    let elsewhere = c.see.ensures.elsewhere in
    let same = c.see.ensures.visitor in
    let seen_is = ap (λ (m : Me GuardedView Known). (view_of m).seen) same.1 in
    record {
      end_is = i.end_is;
      count = set_count now place after ∙ i.count;
      visitor = visitor_same _ _ c.passes.visitor_seat c.see.new.visitor_seat same.0 same.1 i.visitor;
      legal = subst (IsLegalHistory (g.B.Naming.plan number)) (sym seen_is) i.legal;
      lock = i.lock;
      shown = subst (λ (h : List Entry). (k : _) → k < place + 1 → IsShown (pass_at old k).who (view_at (pass_at old k) number) h) (sym seen_is)
          (shown_more old now number place (view_of c.passes.visitor_seat.me).seen before after below is untouched elsewhere (record { own = c.see.ensures.own; begins = c.see.ensures.begins }) i.shown);
      left = left_less old now number place before after below is untouched elsewhere i.left;
      callers = callers_stay old now number place before after below is untouched elsewhere i.callers;
      deeds = deeds_stay old now number place before after below is untouched elsewhere c.see.ensures.did i.deeds;
      others = others_stay old now number place before after below is untouched elsewhere i.others;
    }

pub returns-clause-settled : goal.returns-clause-settled
returns-clause-settled g c =
    let i = c.passes.invariant in
    let written : reverse c.into_parts-shard.result.0.journal ≡ (view_of c.passes.visitor_seat.me).seen =
    ap (λ (j : List Entry). reverse j) c.into_parts-shard.ensures.shard.1 ∙ c.close.ensures.written in
    λ place below. settled_by _ _ _ _ written (i.shown place (let t = c.passes-test.false in let e = i.end_is in omega (arith, t, e, below)))

pub returns-clause-legal : goal.returns-clause-legal
returns-clause-legal g c =
    let i = c.passes.invariant in
    let written : reverse c.into_parts-shard.result.0.journal ≡ (view_of c.passes.visitor_seat.me).seen =
    ap (λ (j : List Entry). reverse j) c.into_parts-shard.ensures.shard.1 ∙ c.close.ensures.written in
    subst (IsLegalHistory (g.B.Naming.plan c.args.number)) (sym written) i.legal

pub returns-clause-plan : goal.returns-clause-plan
returns-clause-plan g c =
    c.into_parts-shard.ensures.shard.0 ∙ ap (λ (k : KeyedPlan). k.plan) (c.close.ensures.key ∙ c.passes.invariant.lock.3)

pub gather-requires-clause-other : goal.gather-requires-clause-other
gather-requires-clause-other g c =
    let guarded = c.close.result in
    let keyed_is : guarded.key ≡ keyed (g.B.Naming.plan c.args.number) g.B.Naming.order = c.close.ensures.key ∙ c.passes.invariant.lock.3 in
    let place = c.into_parts-shard.result.1 in
    let rests = c.into_parts-shard.ensures.place in
    let seat = c.into_seat.ensures in (
      OnShard guarded.key.plan.number,
      (
        seat.0 ∙ rests.0 ∙ ap (λ (k : KeyedPlan). k.order) keyed_is ∙ sym c.requires.order.0,
        (seat_of_place place c.into_seat.result.me (OnShard guarded.key.plan.number) rests.1 seat.2 seat.3).0,
      ),
    )

pub returns-clause-taken : goal.returns-clause-taken
returns-clause-taken g c =
    let guarded = c.close.result in
    let keyed_is : guarded.key ≡ keyed (g.B.Naming.plan c.args.number) g.B.Naming.order = c.close.ensures.key ∙ c.passes.invariant.lock.3 in
    let same : guarded.key.plan.number ≡ c.args.number = ap (λ (k : KeyedPlan). k.plan.number) keyed_is ∙ c.requires.numbered in
    let place = c.into_parts-shard.result.1 in
    let rests = c.into_parts-shard.ensures.place in
    let seat = c.into_seat.ensures in
    let me = c.into_seat.result.me in
    let is = seat_of_place place me (OnShard guarded.key.plan.number) rests.1 seat.2 seat.3 in record {
      deeds = deeds_at place;
      written = c.into_parts-shard.ensures.written ∙ ap (λ (l : List Entry). reverse l) (sym c.into_parts-shard.ensures.shard.1);
      more = gathered c.args.seat.now.me c.gather.new.seat.me me (OnShard c.args.number) (deeds_at place) c.gather.ensures.both
          (is.0 ∙ ap (λ (n : ℕ). (account (OnShard n) (account_deeds me.0) ∷ [], [])) same) is.1;
    }
