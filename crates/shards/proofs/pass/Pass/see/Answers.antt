use Rattle.std.proofs.Common.{sym, ap, ◌∙◌, subst}
use Rattle.shards.specs.CallerView.{CallerView}
use Rattle.shards.specs.Passes.{PassView}
use Rattle.shards.specs.Seats.{IsLockOf}
use Rattle.shards.proofs.PartLemmas.{part_is, before_is, after_is, elsewhere, pass_after, looked_at}
use Rattle.semantics.specs.History.{IsLegalHistory}
use Rattle.semantics.specs.CallerLaws.{own_entries}
use Rattle.shards.specs.CallerView.{BeginsWith}
use Rattle.shards.specs.Seats.{IsVisitor, view_of}
use Rattle.shards.specs.GuardedView.{keys}
use Rattle.shards.specs.OrderRule.{account_deeds}
use Rattle.shards.proofs.pass.Pass.see.Goals as goal

pub see-requires-clause-lock : goal.see-requires-clause-lock
see-requires-clause-lock g c =
    let part = part_is g.B.Naming.table (keys g.B.Naming.plan g.B.Naming.order) g.B.Naming.count c.self.inside.who c.self.inside.parts.items (account_deeds c.self.inside.seat.me.0) (account_deeds c.self.inside.seat.me.0) c.args.self.now c.args.number c.index_mut.result.now c.index_mut.result.now c.self.invariant.0 c.self.view_is c.requires.number c.index_mut.ensures.value in
    subst (λ t. IsLockOf t c.index_mut.result.now.key c.args.lock.now) (sym part.table_is) (subst (λ p. IsLockOf (g.B.Naming.table c.args.number) p c.args.lock.now) (sym part.key_is) c.requires.lock)

pub see-requires-clause-alone : goal.see-requires-clause-alone
see-requires-clause-alone g c = (part_is g.B.Naming.table (keys g.B.Naming.plan g.B.Naming.order) g.B.Naming.count c.self.inside.who c.self.inside.parts.items (account_deeds c.self.inside.seat.me.0) (account_deeds c.self.inside.seat.me.0) c.args.self.now c.args.number c.index_mut.result.now c.index_mut.result.now c.self.invariant.0 c.self.view_is c.requires.number c.index_mut.ensures.value).alone

pub invariant_of-self : goal.invariant_of-self
invariant_of-self g c = (
  pass_after g.B.Naming.table (keys g.B.Naming.plan g.B.Naming.order) g.B.Naming.count c.self.inside.who c.self.inside.parts.items (account_deeds c.self.inside.seat.me.0) (account_deeds c.self.inside.seat.me.0) c.args.self.now c.args.number c.index_mut.result.now c.see.new.self c.self.invariant.0 c.self.view_is c.requires.number c.index_mut.ensures.value c.see.ensures.same c.see.ensures.alone,
  c.self.invariant.1,
)

pub returns-clause-elsewhere : goal.returns-clause-elsewhere
returns-clause-elsewhere g c = elsewhere g.B.Naming.table (keys g.B.Naming.plan g.B.Naming.order) g.B.Naming.count c.self.inside.who c.self.inside.parts.items (account_deeds c.self.inside.seat.me.0) (account_deeds c.self.inside.seat.me.0) c.args.self.now c.args.number c.index_mut.result.now c.see.new.self c.self.invariant.0 c.self.view_is c.requires.number c.index_mut.ensures.value

pub see-requires-clause-visitor : goal.see-requires-clause-visitor
see-requires-clause-visitor g c =
    let part = part_is g.B.Naming.table (keys g.B.Naming.plan g.B.Naming.order) g.B.Naming.count c.self.inside.who c.self.inside.parts.items (account_deeds c.self.inside.seat.me.0) (account_deeds c.self.inside.seat.me.0) c.args.self.now c.args.number c.index_mut.result.now c.index_mut.result.now c.self.invariant.0 c.self.view_is c.requires.number c.index_mut.ensures.value in
    subst (λ t. IsVisitor t c.index_mut.result.now.key (view_of c.args.visitor_seat.now.me).seen c.args.visitor_seat.now) (sym part.table_is)
    (subst (λ p. IsVisitor (g.B.Naming.table c.args.number) p (view_of c.args.visitor_seat.now.me).seen c.args.visitor_seat.now) (sym part.key_is) c.requires.visitor)

pub see-requires-clause-legal : goal.see-requires-clause-legal
see-requires-clause-legal g c =
    let part = part_is g.B.Naming.table (keys g.B.Naming.plan g.B.Naming.order) g.B.Naming.count c.self.inside.who c.self.inside.parts.items (account_deeds c.self.inside.seat.me.0) (account_deeds c.self.inside.seat.me.0) c.args.self.now c.args.number c.index_mut.result.now c.index_mut.result.now c.self.invariant.0 c.self.view_is c.requires.number c.index_mut.ensures.value in
    subst (λ p. IsLegalHistory p.plan (view_of c.args.visitor_seat.now.me).seen) (sym part.key_is) c.requires.legal

pub returns-clause-looked : goal.returns-clause-looked
returns-clause-looked g c = looked_at g.B.Naming.table (keys g.B.Naming.plan g.B.Naming.order) g.B.Naming.count c.self.inside.who c.self.inside.parts.items (account_deeds c.self.inside.seat.me.0) (account_deeds c.self.inside.seat.me.0) c.args.self.now c.args.number c.index_mut.result.now c.see.new.self c.self.invariant.0 c.self.view_is c.requires.number c.index_mut.ensures.value c.see.ensures.looked

pub returns-clause-sight : goal.returns-clause-sight
returns-clause-sight g c = ap (λ (v : CallerView). v.seen) (sym (after_is g.B.Naming.table (keys g.B.Naming.plan g.B.Naming.order) g.B.Naming.count c.self.inside.who c.self.inside.parts.items (account_deeds c.self.inside.seat.me.0) (account_deeds c.self.inside.seat.me.0) c.args.self.now c.args.number c.index_mut.result.now c.see.new.self c.self.invariant.0 c.self.view_is c.requires.number c.index_mut.ensures.value)) ∙ c.see.ensures.sight

pub returns-clause-own : goal.returns-clause-own
returns-clause-own g c =
    let part = part_is g.B.Naming.table (keys g.B.Naming.plan g.B.Naming.order) g.B.Naming.count c.self.inside.who c.self.inside.parts.items (account_deeds c.self.inside.seat.me.0) (account_deeds c.self.inside.seat.me.0) c.args.self.now c.args.number c.index_mut.result.now c.index_mut.result.now c.self.invariant.0 c.self.view_is c.requires.number c.index_mut.ensures.value in
    ap (λ (v : CallerView). v.own) (sym (before_is g.B.Naming.table (keys g.B.Naming.plan g.B.Naming.order) g.B.Naming.count c.self.inside.who c.self.inside.parts.items (account_deeds c.self.inside.seat.me.0) (account_deeds c.self.inside.seat.me.0) c.args.self.now c.args.number c.index_mut.result.now c.see.new.self c.self.invariant.0 c.self.view_is c.requires.number c.index_mut.ensures.value)) ∙ c.see.ensures.own
    ∙ ap (λ w. own_entries w (view_of c.args.visitor_seat.now.me).seen) (part.caller ∙ ap (λ (p : PassView). p.who) c.self.view_is)

pub returns-clause-begins : goal.returns-clause-begins
returns-clause-begins g c =
    subst (λ (v : CallerView). BeginsWith (view_of c.args.visitor_seat.now.me).seen v.seen) (before_is g.B.Naming.table (keys g.B.Naming.plan g.B.Naming.order) g.B.Naming.count c.self.inside.who c.self.inside.parts.items (account_deeds c.self.inside.seat.me.0) (account_deeds c.self.inside.seat.me.0) c.args.self.now c.args.number c.index_mut.result.now c.see.new.self c.self.invariant.0 c.self.view_is c.requires.number c.index_mut.ensures.value) c.see.ensures.begins

pub returns-clause-did : goal.returns-clause-did
returns-clause-did g c = ap (λ (p : PassView). p.deeds) c.self.view_is
