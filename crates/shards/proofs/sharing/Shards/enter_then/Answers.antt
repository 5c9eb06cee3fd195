use Rattle.std.proofs.Common.{◌≡◌, ◌++◌, List, sym, ap, ◌∙◌, subst}
use Rattle.std.specs.Prelude.{IfOk, IfErr}
use Rattle.shards.specs.CallerView.{CallerView}
use Rattle.shards.specs.Seats.{IsLockOf}
use Rattle.semantics.specs.History.{Meets, entry_of}
use Rattle.shards.proofs.PartLemmas.{Said, said, part_is, after_is, elsewhere, pass_after}
use Rattle.std.proofs.Common.{◌∷◌}
use Rattle.semantics.specs.CallerLaws.{own_entries}
use Rattle.semantics.specs.declared.call.Call.TheVariants.{Enter}
use Rattle.journal.specs.Entries.{enter_entry}
use Rattle.shards.specs.Asked.{AreServed, IsStoppedAt}
use Rattle.shards.specs.GuardedView.{KeyedPlan, keys}
use Rattle.shards.specs.OrderRule.{IsSeatFor, KnowsShard, account_deeds}
use Rattle.shards.specs.Deeds.{deeds_by_both}
use Rattle.shards.specs.Passes.{PassView}
use Rattle.shards.specs.declared.deeds.Deed.{Deed}
use Rattle.shards.specs.declared.deeds.OrderPart.TheVariants.{ByCaller}
use Rattle.shards.proofs.sharing.Shards.enter_then.Goals as goal

pub enter_then-requires-clause-ready : goal.enter_then-requires-clause-ready
enter_then-requires-clause-ready g c =
    let part = part_is g.B.Naming.table (keys g.B.Naming.plan g.B.Naming.order) g.B.Naming.count c.pass.inside.who c.pass.inside.parts.items (account_deeds c.pass.inside.seat.me.0) (account_deeds c.pass.inside.seat.me.0) c.args.pass.now c.args.shard c.index_mut.result.now c.index_mut.result.now c.pass.invariant.0 c.pass.view_is c.requires.shard c.index_mut.ensures.value in record {
      lock_is = subst (λ t. IsLockOf t c.index_mut.result.now.key c.lock.result.now) (sym part.table_is) (subst (λ p. IsLockOf (g.B.Naming.table c.args.shard) p c.lock.result.now) (sym part.key_is) c.lock.ensures.lock);
      caller = part.caller;
      has = part.alone;
      order_is = subst (λ (k : KeyedPlan). KnowsShard k c.order_at.result.now) (sym part.key_is) c.order_at.ensures;
      mine_is = subst (λ (k : KeyedPlan). IsSeatFor k.order (ByCaller c.pass.inside.who) c.pass.inside.seat) (sym part.key_is) c.pass.invariant.1;
    }

pub invariant_of-pass : goal.invariant_of-pass
invariant_of-pass g c = (
  pass_after g.B.Naming.table (keys g.B.Naming.plan g.B.Naming.order) g.B.Naming.count c.pass.inside.who c.pass.inside.parts.items (account_deeds c.pass.inside.seat.me.0) (account_deeds c.enter_then.new.mine.me.0) c.args.pass.now c.args.shard c.index_mut.result.now c.enter_then.new.self c.pass.invariant.0 c.pass.view_is c.requires.shard c.index_mut.ensures.value c.enter_then.ensures.same c.enter_then.ensures.ready.has,
  subst (λ (k : KeyedPlan). IsSeatFor k.order (ByCaller c.pass.inside.who) c.enter_then.new.mine) (c.enter_then.ensures.same.key ∙ (part_is g.B.Naming.table (keys g.B.Naming.plan g.B.Naming.order) g.B.Naming.count c.pass.inside.who c.pass.inside.parts.items (account_deeds c.pass.inside.seat.me.0) (account_deeds c.pass.inside.seat.me.0) c.args.pass.now c.args.shard c.index_mut.result.now c.index_mut.result.now c.pass.invariant.0 c.pass.view_is c.requires.shard c.index_mut.ensures.value).key_is) c.enter_then.ensures.ready.mine_is,
)

pub returns-clause-elsewhere : goal.returns-clause-elsewhere
returns-clause-elsewhere g c = elsewhere g.B.Naming.table (keys g.B.Naming.plan g.B.Naming.order) g.B.Naming.count c.pass.inside.who c.pass.inside.parts.items (account_deeds c.pass.inside.seat.me.0) (account_deeds c.enter_then.new.mine.me.0) c.args.pass.now c.args.shard c.index_mut.result.now c.enter_then.new.self c.pass.invariant.0 c.pass.view_is c.requires.shard c.index_mut.ensures.value

pub enter_then-requires-clause-may_enter : goal.enter_then-requires-clause-may_enter
enter_then-requires-clause-may_enter g c =
    subst (λ (x : Said). Meets x.plan x.before.own x.who (Enter x.number)) (sym (said g.B.Naming.table (keys g.B.Naming.plan g.B.Naming.order) g.B.Naming.count c.pass.inside.who c.pass.inside.parts.items (account_deeds c.pass.inside.seat.me.0) (account_deeds c.pass.inside.seat.me.0) c.args.pass.now c.args.shard c.index_mut.result.now c.index_mut.result.now c.pass.invariant.0 c.pass.view_is c.requires.shard c.index_mut.ensures.value c.lock.ensures.number)) c.requires.may_enter

pub enter_then-requires-clause-met : goal.enter_then-requires-clause-met
enter_then-requires-clause-met g c =
    subst (λ (x : Said). Meets x.plan (enter_entry x.number x.who ∷ x.before.own) x.who (g.C.Ask.asks c.args.ask x.number)) (sym (said g.B.Naming.table (keys g.B.Naming.plan g.B.Naming.order) g.B.Naming.count c.pass.inside.who c.pass.inside.parts.items (account_deeds c.pass.inside.seat.me.0) (account_deeds c.pass.inside.seat.me.0) c.args.pass.now c.args.shard c.index_mut.result.now c.index_mut.result.now c.pass.invariant.0 c.pass.view_is c.requires.shard c.index_mut.ensures.value c.lock.ensures.number)) c.requires.met

pub returns-clause-own : goal.returns-clause-own
returns-clause-own g c = subst (λ (v : CallerView). v.own ≡ own_entries c.pass.inside.who v.seen) (after_is g.B.Naming.table (keys g.B.Naming.plan g.B.Naming.order) g.B.Naming.count c.pass.inside.who c.pass.inside.parts.items (account_deeds c.pass.inside.seat.me.0) (account_deeds c.enter_then.new.mine.me.0) c.args.pass.now c.args.shard c.index_mut.result.now c.enter_then.new.self c.pass.invariant.0 c.pass.view_is c.requires.shard c.index_mut.ensures.value) c.enter_then.ensures.own

pub returns-clause-served : goal.returns-clause-served
returns-clause-served g c =
    subst (λ (x : Said). IfOk c.enter_then.result (λ a. AreServed x.plan x.before x.after (enter_entry x.number x.who) (entry_of x.who (g.C.Ask.asks c.args.ask x.number) (g.C.Ask.replies x.number a))))
    (said g.B.Naming.table (keys g.B.Naming.plan g.B.Naming.order) g.B.Naming.count c.pass.inside.who c.pass.inside.parts.items (account_deeds c.pass.inside.seat.me.0) (account_deeds c.enter_then.new.mine.me.0) c.args.pass.now c.args.shard c.index_mut.result.now c.enter_then.new.self c.pass.invariant.0 c.pass.view_is c.requires.shard c.index_mut.ensures.value c.lock.ensures.number) c.enter_then.ensures.served

pub returns-clause-refused : goal.returns-clause-refused
returns-clause-refused g c =
    subst (λ (x : Said). IfErr c.enter_then.result (IsStoppedAt x.plan x.number x.before x.after x.who (g.C.Ask.asks c.args.ask x.number)))
    (said g.B.Naming.table (keys g.B.Naming.plan g.B.Naming.order) g.B.Naming.count c.pass.inside.who c.pass.inside.parts.items (account_deeds c.pass.inside.seat.me.0) (account_deeds c.enter_then.new.mine.me.0) c.args.pass.now c.args.shard c.index_mut.result.now c.enter_then.new.self c.pass.invariant.0 c.pass.view_is c.requires.shard c.index_mut.ensures.value c.lock.ensures.number) c.enter_then.ensures.refused

pub returns-clause-did : goal.returns-clause-did
returns-clause-did g c =
    subst (λ (x : Said). account_deeds c.enter_then.new.mine.me.0 ≡ deeds_by_both x.number x.who (g.C.Ask.asks c.args.ask x.number) (g.C.Ask.replies x.number) c.enter_then.result ++ c.args.pass.now.deeds)
    (said g.B.Naming.table (keys g.B.Naming.plan g.B.Naming.order) g.B.Naming.count c.pass.inside.who c.pass.inside.parts.items (account_deeds c.pass.inside.seat.me.0) (account_deeds c.enter_then.new.mine.me.0) c.args.pass.now c.args.shard c.index_mut.result.now c.enter_then.new.self c.pass.invariant.0 c.pass.view_is c.requires.shard c.index_mut.ensures.value c.lock.ensures.number)
    (c.enter_then.ensures.did ∙ ap (λ (l : List Deed). deeds_by_both c.index_mut.result.now.key.plan.number c.pass.inside.who (g.C.Ask.asks c.args.ask c.index_mut.result.now.key.plan.number) (g.C.Ask.replies c.index_mut.result.now.key.plan.number) c.enter_then.result ++ l) (ap (λ (p : PassView). p.deeds) c.pass.view_is))
