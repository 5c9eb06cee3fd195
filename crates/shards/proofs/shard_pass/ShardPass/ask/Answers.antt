use Rattle.std.proofs.Common.{◌≡◌, ◌∷◌, Bool, refl, sym, ap, ◌∙◌, subst}
use Rattle.std.specs.Prelude.{IfOk, IfErr, OnErr}
use Rattle.semantics.specs.declared.call.SectionChange.{SectionChange}
use Rattle.semantics.specs.History.{Meets, entry_of}
use Rattle.shards.specs.declared.deeds.OrderPart.TheVariants.{ByCaller}
use Rattle.shards.specs.CallerView.{ViewIsServed, ViewIsRefused}
use Rattle.shards.specs.Deeds.{deed_by}
use Rattle.shards.specs.HeldCells.{HeldIds}
use Rattle.shards.specs.OrderRule.{IsSeatFor, KnowsShard, account_deeds}
use Rattle.shards.specs.Passes.{flag_after}
use Rattle.shards.specs.Seats.{IsLockOf, view_of}
use Rattle.shards.specs.GuardedView.{KeyedPlan}
use Rattle.shards.specs.ShardPasses.{ShardPassView, shard_pass_view, IsShardPass}
use Rattle.shards.proofs.AddLemmas.{seat_with, lent_key, lent_met, added}
use Rattle.shards.proofs.Holding.{held_of, slot_of, when_refused}
use Rattle.shards.proofs.ShardPassLemmas.{asked_served, asked_refused, asked_room, asked_part}
use Rattle.shards.proofs.shard_pass.ShardPass.ask.Goals as goal

pub slot_mut-requires : goal.slot_mut-requires
slot_mut-requires g c =
    let h = held_of c.self.inside.seat.me (ap (λ (v : ShardPassView). v.has_it) c.self.view_is ∙ c.requires.ready.has) c.self.invariant.holding in
    (ap (λ (v : ShardPassView). v.table) c.self.view_is ∙ sym c.requires.ready.lock_is.0, (h.shard, slot_of c.self.inside.seat.me h.shard h.has))

pub add-answer-requires-clause-met : goal.add-answer-requires-clause-met
add-answer-requires-clause-met g c =
    lent_met c.self.inside.seat c.slot_mut.result.now c.slot_mut.ensures.value c.self.invariant.holding c.args.who (g.C.Ask.asks c.args.ask) (ap (λ (v : ShardPassView). v.who) c.self.view_is ∙ c.requires.ready.caller)
    (subst (λ (v : ShardPassView). Meets v.key.plan v.view.own c.args.who (g.C.Ask.asks c.args.ask v.key.plan.number)) (sym c.self.view_is) c.requires.met)

pub add-answer-requires-clause-order : goal.add-answer-requires-clause-order
add-answer-requires-clause-order g c =
    subst (λ (k : KeyedPlan). KnowsShard k c.args.order.now) (sym (lent_key c.self.inside.seat c.slot_mut.result.now c.slot_mut.ensures.value c.self.invariant.holding ∙ ap (λ (v : ShardPassView). v.key) c.self.view_is)) c.requires.ready.order_is

pub add-answer-requires-clause-mine : goal.add-answer-requires-clause-mine
add-answer-requires-clause-mine g c =
    subst (λ (k : KeyedPlan). IsSeatFor k.order (ByCaller c.args.who) c.args.mine.now) (sym (lent_key c.self.inside.seat c.slot_mut.result.now c.slot_mut.ensures.value c.self.invariant.holding ∙ ap (λ (v : ShardPassView). v.key) c.self.view_is)) c.requires.ready.mine_is

pub keep-requires : goal.keep-requires
keep-requires g c =
    let a = added c.self.inside.seat c.slot_mut.result.now c.slot_mut.ensures.value c.self.invariant.holding c.args.who (g.C.Ask.asks c.args.ask) (ap (λ (v : ShardPassView). v.who) c.self.view_is ∙ c.requires.ready.caller)
    g.C.Ask.replies c.add-answer.new.self c.self.invariant.acts c.add-answer.result c.add-answer.ensures.called in (
      c.self.inside.seat.me.0.key.plan.number,
      asked_room c.args.who (g.C.Ask.asks c.args.ask) g.C.Ask.replies c.self.inside.seat (seat_with c.self.inside.seat c.add-answer.new.self) c.self.inside.inside c.self.inside.held c.self.invariant
          (ap (λ (v : ShardPassView). v.who) c.self.view_is ∙ c.requires.ready.caller) a.taken a.same a.legal c.add-answer.result a.next a.full a.unchanged a.few,
    )

pub invariant_of-self : goal.invariant_of-self
invariant_of-self g c =
    let n = c.self.inside.seat.me.0.key.plan.number in
    let a = added c.self.inside.seat c.slot_mut.result.now c.slot_mut.ensures.value c.self.invariant.holding c.args.who (g.C.Ask.asks c.args.ask) (ap (λ (v : ShardPassView). v.who) c.self.view_is ∙ c.requires.ready.caller)
    g.C.Ask.replies c.add-answer.new.self c.self.invariant.acts c.add-answer.result c.add-answer.ensures.called in
    subst (λ (x : Bool × HeldIds). IsShardPass (seat_with c.self.inside.seat c.add-answer.new.self) x.0 x.1)
    (λ i. (sym (c.change.ensures ∙ ap (λ (s : SectionChange). flag_after c.add-answer.result s c.self.inside.inside) (c.section.ensures n)) i, sym (c.keep.ensures n) i))
    (asked_part c.args.who (g.C.Ask.asks c.args.ask) g.C.Ask.replies c.self.inside.seat (seat_with c.self.inside.seat c.add-answer.new.self) c.self.inside.inside c.self.inside.held c.self.invariant
    (ap (λ (v : ShardPassView). v.who) c.self.view_is ∙ c.requires.ready.caller) a.taken a.same a.legal c.add-answer.result a.next a.full a.unchanged a.holding)

pub returns-clause-same : goal.returns-clause-same
returns-clause-same g c = record {
  table = ap (λ (v : ShardPassView). v.table) c.self.view_is;
  key = ap (λ (v : ShardPassView). v.key) c.self.view_is;
  plan = ap (λ (v : ShardPassView). v.key.plan) c.self.view_is;
  who = ap (λ (v : ShardPassView). v.who) c.self.view_is;
}

pub returns-clause-served : goal.returns-clause-served
returns-clause-served g c =
    let a = added c.self.inside.seat c.slot_mut.result.now c.slot_mut.ensures.value c.self.invariant.holding c.args.who (g.C.Ask.asks c.args.ask) (ap (λ (v : ShardPassView). v.who) c.self.view_is ∙ c.requires.ready.caller)
    g.C.Ask.replies c.add-answer.new.self c.self.invariant.acts c.add-answer.result c.add-answer.ensures.called in
    subst (λ (v : ShardPassView). IfOk c.add-answer.result (λ a. ViewIsServed v.key.plan v.view (view_of (seat_with c.self.inside.seat c.add-answer.new.self).me) (entry_of c.args.who (g.C.Ask.asks c.args.ask v.key.plan.number) (g.C.Ask.replies v.key.plan.number a)))) c.self.view_is
    (asked_served c.args.who (g.C.Ask.asks c.args.ask) g.C.Ask.replies c.self.inside.seat (seat_with c.self.inside.seat c.add-answer.new.self) c.self.inside.inside c.self.inside.held c.self.invariant
    (ap (λ (v : ShardPassView). v.who) c.self.view_is ∙ c.requires.ready.caller) a.taken a.same a.legal c.add-answer.result a.next a.full a.unchanged)

pub returns-clause-next : goal.returns-clause-next
returns-clause-next g c =
    let a = added c.self.inside.seat c.slot_mut.result.now c.slot_mut.ensures.value c.self.invariant.holding c.args.who (g.C.Ask.asks c.args.ask) (ap (λ (v : ShardPassView). v.who) c.self.view_is ∙ c.requires.ready.caller)
    g.C.Ask.replies c.add-answer.new.self c.self.invariant.acts c.add-answer.result c.add-answer.ensures.called in
    subst (λ (v : ShardPassView). IfOk c.add-answer.result (λ a. (view_of (seat_with c.self.inside.seat c.add-answer.new.self).me).seen ≡ entry_of c.args.who (g.C.Ask.asks c.args.ask v.key.plan.number) (g.C.Ask.replies v.key.plan.number a) ∷ v.view.seen)) c.self.view_is a.next

pub returns-clause-refused : goal.returns-clause-refused
returns-clause-refused g c =
    let a = added c.self.inside.seat c.slot_mut.result.now c.slot_mut.ensures.value c.self.invariant.holding c.args.who (g.C.Ask.asks c.args.ask) (ap (λ (v : ShardPassView). v.who) c.self.view_is ∙ c.requires.ready.caller)
    g.C.Ask.replies c.add-answer.new.self c.self.invariant.acts c.add-answer.result c.add-answer.ensures.called in
    subst (λ (v : ShardPassView). OnErr c.add-answer.result (ViewIsRefused v.key.plan v.view (view_of (seat_with c.self.inside.seat c.add-answer.new.self).me) (g.C.Ask.asks c.args.ask v.key.plan.number))) c.self.view_is
    (asked_refused c.args.who (g.C.Ask.asks c.args.ask) g.C.Ask.replies c.self.inside.seat (seat_with c.self.inside.seat c.add-answer.new.self) c.self.inside.inside c.self.inside.held c.self.invariant
    (ap (λ (v : ShardPassView). v.who) c.self.view_is ∙ c.requires.ready.caller) a.taken a.same a.legal c.add-answer.result a.next a.full a.unchanged)

pub returns-clause-unchanged : goal.returns-clause-unchanged
returns-clause-unchanged g c =
    let a = added c.self.inside.seat c.slot_mut.result.now c.slot_mut.ensures.value c.self.invariant.holding c.args.who (g.C.Ask.asks c.args.ask) (ap (λ (v : ShardPassView). v.who) c.self.view_is ∙ c.requires.ready.caller)
    g.C.Ask.replies c.add-answer.new.self c.self.invariant.acts c.add-answer.result c.add-answer.ensures.called in
    when_refused c.add-answer.result (λ same. ap shard_pass_view same ∙ c.self.view_is) a.unchanged

pub returns-clause-names_the_shard : goal.returns-clause-names_the_shard
returns-clause-names_the_shard g c =
    subst (λ (k : KeyedPlan). IfErr c.add-answer.result (λ fault. fault.shard ≡ k.plan.number)) (lent_key c.self.inside.seat c.slot_mut.result.now c.slot_mut.ensures.value c.self.invariant.holding ∙ ap (λ (v : ShardPassView). v.key) c.self.view_is) c.add-answer.ensures.called.names_the_shard

pub returns-clause-ready : goal.returns-clause-ready
returns-clause-ready g c =
    record {
      lock_is = subst (λ (v : ShardPassView). IsLockOf v.table v.key c.args.lock.now) (sym c.self.view_is) c.requires.ready.lock_is;
      caller = ap (λ (v : ShardPassView). v.who) c.self.view_is ∙ c.requires.ready.caller;
      has = refl;
      order_is = subst (λ (v : ShardPassView). KnowsShard v.key c.args.order.now) (sym c.self.view_is) c.requires.ready.order_is;
      mine_is = subst (λ (k : KeyedPlan). IsSeatFor k.order (ByCaller c.args.who) c.add-answer.new.mine) (lent_key c.self.inside.seat c.slot_mut.result.now c.slot_mut.ensures.value c.self.invariant.holding) c.add-answer.ensures.mine;
    }

pub returns-clause-did : goal.returns-clause-did
returns-clause-did g c =
    subst (λ (k : KeyedPlan). account_deeds c.add-answer.new.mine.me.0 ≡ deed_by c.args.who (g.C.Ask.asks c.args.ask k.plan.number) (g.C.Ask.replies k.plan.number) c.add-answer.result ∷ account_deeds c.args.mine.now.me.0)
    (lent_key c.self.inside.seat c.slot_mut.result.now c.slot_mut.ensures.value c.self.invariant.holding ∙ ap (λ (v : ShardPassView). v.key) c.self.view_is) c.add-answer.ensures.did
