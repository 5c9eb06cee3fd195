use Rattle.std.proofs.Common.{sym, ap, ◌∙◌, subst}
use Rattle.shards.specs.CallerView.{CallerView}
use Rattle.shards.specs.Seats.{IsLockOf}
use Rattle.shards.proofs.PartLemmas.{part_is, after_is, elsewhere, pass_after, looked_at}
use Rattle.std.specs.Prelude.{IsTrue}
use Rattle.semantics.specs.ShardPlan.{KeepsRows}
use Rattle.semantics.specs.History.{meets}
use Rattle.shards.specs.Passes.{PassView}
use Rattle.shards.specs.GuardedView.{KeyedPlan, keys}
use Rattle.shards.specs.OrderRule.{account_deeds}
use Rattle.shards.proofs.pass.Pass.may_call.Goals as goal

pub may_call-requires-clause-lock : goal.may_call-requires-clause-lock
may_call-requires-clause-lock g c =
    let part = part_is g.B.Naming.table (keys g.B.Naming.plan g.B.Naming.order) g.B.Naming.count c.self.inside.who c.self.inside.parts.items (account_deeds c.self.inside.seat.me.0) (account_deeds c.self.inside.seat.me.0) c.args.self.now c.args.number c.index_mut.result.now c.index_mut.result.now c.self.invariant.0 c.self.view_is c.requires.number c.index_mut.ensures.value in
    subst (λ t. IsLockOf t c.index_mut.result.now.key c.args.lock.now) (sym part.table_is) (subst (λ p. IsLockOf (g.B.Naming.table c.args.number) p c.args.lock.now) (sym part.key_is) c.requires.lock)

pub may_call-requires-clause-who : goal.may_call-requires-clause-who
may_call-requires-clause-who g c = (part_is g.B.Naming.table (keys g.B.Naming.plan g.B.Naming.order) g.B.Naming.count c.self.inside.who c.self.inside.parts.items (account_deeds c.self.inside.seat.me.0) (account_deeds c.self.inside.seat.me.0) c.args.self.now c.args.number c.index_mut.result.now c.index_mut.result.now c.self.invariant.0 c.self.view_is c.requires.number c.index_mut.ensures.value).caller

pub may_call-requires-clause-alone : goal.may_call-requires-clause-alone
may_call-requires-clause-alone g c = (part_is g.B.Naming.table (keys g.B.Naming.plan g.B.Naming.order) g.B.Naming.count c.self.inside.who c.self.inside.parts.items (account_deeds c.self.inside.seat.me.0) (account_deeds c.self.inside.seat.me.0) c.args.self.now c.args.number c.index_mut.result.now c.index_mut.result.now c.self.invariant.0 c.self.view_is c.requires.number c.index_mut.ensures.value).alone

pub invariant_of-self : goal.invariant_of-self
invariant_of-self g c = (
  pass_after g.B.Naming.table (keys g.B.Naming.plan g.B.Naming.order) g.B.Naming.count c.self.inside.who c.self.inside.parts.items (account_deeds c.self.inside.seat.me.0) (account_deeds c.self.inside.seat.me.0) c.args.self.now c.args.number c.index_mut.result.now c.may_call.new.self c.self.invariant.0 c.self.view_is c.requires.number c.index_mut.ensures.value c.may_call.ensures.same c.may_call.ensures.alone,
  c.self.invariant.1,
)

pub returns-clause-elsewhere : goal.returns-clause-elsewhere
returns-clause-elsewhere g c = elsewhere g.B.Naming.table (keys g.B.Naming.plan g.B.Naming.order) g.B.Naming.count c.self.inside.who c.self.inside.parts.items (account_deeds c.self.inside.seat.me.0) (account_deeds c.self.inside.seat.me.0) c.args.self.now c.args.number c.index_mut.result.now c.may_call.new.self c.self.invariant.0 c.self.view_is c.requires.number c.index_mut.ensures.value

pub returns-clause-looked : goal.returns-clause-looked
returns-clause-looked g c = looked_at g.B.Naming.table (keys g.B.Naming.plan g.B.Naming.order) g.B.Naming.count c.self.inside.who c.self.inside.parts.items (account_deeds c.self.inside.seat.me.0) (account_deeds c.self.inside.seat.me.0) c.args.self.now c.args.number c.index_mut.result.now c.may_call.new.self c.self.invariant.0 c.self.view_is c.requires.number c.index_mut.ensures.value c.may_call.ensures.looked

pub returns-clause-may : goal.returns-clause-may
returns-clause-may g c =
    let part = part_is g.B.Naming.table (keys g.B.Naming.plan g.B.Naming.order) g.B.Naming.count c.self.inside.who c.self.inside.parts.items (account_deeds c.self.inside.seat.me.0) (account_deeds c.self.inside.seat.me.0) c.args.self.now c.args.number c.index_mut.result.now c.index_mut.result.now c.self.invariant.0 c.self.view_is c.requires.number c.index_mut.ensures.value in
    λ yes. subst IsTrue (ap (λ (p : KeyedPlan). meets p.plan c.may_call.new.self.view.own c.self.inside.who c.args.call.now) part.key_is
    ∙ ap (λ (v : CallerView). meets (g.B.Naming.plan c.args.number) v.own c.self.inside.who c.args.call.now) (after_is g.B.Naming.table (keys g.B.Naming.plan g.B.Naming.order) g.B.Naming.count c.self.inside.who c.self.inside.parts.items (account_deeds c.self.inside.seat.me.0) (account_deeds c.self.inside.seat.me.0) c.args.self.now c.args.number c.index_mut.result.now c.may_call.new.self c.self.invariant.0 c.self.view_is c.requires.number c.index_mut.ensures.value))
    (c.may_call.ensures.may yes)

pub returns-clause-exact : goal.returns-clause-exact
returns-clause-exact g c =
    let part = part_is g.B.Naming.table (keys g.B.Naming.plan g.B.Naming.order) g.B.Naming.count c.self.inside.who c.self.inside.parts.items (account_deeds c.self.inside.seat.me.0) (account_deeds c.self.inside.seat.me.0) c.args.self.now c.args.number c.index_mut.result.now c.index_mut.result.now c.self.invariant.0 c.self.view_is c.requires.number c.index_mut.ensures.value in
    λ rows. c.may_call.ensures.exact (subst (λ (p : KeyedPlan). KeepsRows p.plan.reserve) (sym part.key_is) rows) ∙ ap (λ (p : KeyedPlan). meets p.plan c.may_call.new.self.view.own c.self.inside.who c.args.call.now) part.key_is
    ∙ ap (λ (v : CallerView). meets (g.B.Naming.plan c.args.number) v.own c.self.inside.who c.args.call.now) (after_is g.B.Naming.table (keys g.B.Naming.plan g.B.Naming.order) g.B.Naming.count c.self.inside.who c.self.inside.parts.items (account_deeds c.self.inside.seat.me.0) (account_deeds c.self.inside.seat.me.0) c.args.self.now c.args.number c.index_mut.result.now c.may_call.new.self c.self.invariant.0 c.self.view_is c.requires.number c.index_mut.ensures.value)

pub returns-clause-did : goal.returns-clause-did
returns-clause-did g c = ap (λ (p : PassView). p.deeds) c.self.view_is
