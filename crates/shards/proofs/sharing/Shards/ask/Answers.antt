use Rattle.std.proofs.Common.{◌≡◌, ap, ◌∙◌, subst}
use Rattle.std.specs.Prelude.{IfOk, OnErr}
use Rattle.semantics.specs.declared.call.Caller.{Caller}
use Rattle.semantics.specs.CallerLaws.{own_entries}
use Rattle.semantics.specs.History.{entry_of}
use Rattle.shards.specs.CallerView.{CallerView, ViewIsServed, ViewIsRefused}
use Rattle.shards.specs.GuardedView.{keys}
use Rattle.shards.specs.OrderRule.{account_deeds}
use Rattle.shards.proofs.CallLemmas.{call_served, call_refused}
use Rattle.shards.proofs.PartLemmas.{Said, said, part_is, after_is, elsewhere}
use Rattle.shards.proofs.sharing.Shards.ask.Goals as goal

pub returns-clause-elsewhere : goal.returns-clause-elsewhere
returns-clause-elsewhere g c =
    elsewhere g.B.Naming.table (keys g.B.Naming.plan g.B.Naming.order) g.B.Naming.count c.pass.inside.who c.pass.inside.parts.items (account_deeds c.pass.inside.seat.me.0) (account_deeds c.ask-answer.new.mine.me.0)
    c.args.pass.now c.args.shard c.index_mut-part.result.now c.give.new.self c.pass.invariant.0 c.pass.view_is c.requires.shard c.index_mut-part.ensures.value

pub returns-clause-own : goal.returns-clause-own
returns-clause-own g c =
    let part = part_is g.B.Naming.table (keys g.B.Naming.plan g.B.Naming.order) g.B.Naming.count c.pass.inside.who c.pass.inside.parts.items (account_deeds c.pass.inside.seat.me.0) (account_deeds c.pass.inside.seat.me.0) c.args.pass.now c.args.shard c.index_mut-part.result.now c.index_mut-part.result.now c.pass.invariant.0 c.pass.view_is c.requires.shard c.index_mut-part.ensures.value in
    subst (λ (v : CallerView). v.own ≡ own_entries c.pass.inside.who v.seen) (after_is g.B.Naming.table (keys g.B.Naming.plan g.B.Naming.order) g.B.Naming.count c.pass.inside.who c.pass.inside.parts.items (account_deeds c.pass.inside.seat.me.0) (account_deeds c.ask-answer.new.mine.me.0)
    c.args.pass.now c.args.shard c.index_mut-part.result.now c.give.new.self c.pass.invariant.0 c.pass.view_is c.requires.shard c.index_mut-part.ensures.value)
    (c.give.ensures.own ∙ ap (λ (who : Caller). own_entries who c.give.new.self.view.seen)
    (c.give.ensures.same.who ∙ c.ask-answer.ensures.same.who ∙ c.take.ensures.same.who ∙ part.caller))

pub returns-clause-served : goal.returns-clause-served
returns-clause-served g c =
    subst (λ (x : Said). IfOk c.ask-answer.result (λ a. ViewIsServed x.plan x.before x.after (entry_of x.who (g.C.Ask.asks c.args.ask x.number) (g.C.Ask.replies x.number a))))
    (said g.B.Naming.table (keys g.B.Naming.plan g.B.Naming.order) g.B.Naming.count c.pass.inside.who c.pass.inside.parts.items (account_deeds c.pass.inside.seat.me.0) (account_deeds c.ask-answer.new.mine.me.0)
    c.args.pass.now c.args.shard c.index_mut-part.result.now c.give.new.self c.pass.invariant.0 c.pass.view_is c.requires.shard c.index_mut-part.ensures.value c.lock-lock.ensures.number)
    (call_served c.pass.inside.who (g.C.Ask.asks c.args.ask) g.C.Ask.replies c.index_mut-part.result.now c.take.new.self c.ask-answer.new.self c.give.new.self c.ask-answer.result c.take.ensures.same c.take.ensures.looked c.give.ensures.view
    c.ask-answer.ensures.served)

pub returns-clause-refused : goal.returns-clause-refused
returns-clause-refused g c =
    subst (λ (x : Said). OnErr c.ask-answer.result (ViewIsRefused x.plan x.before x.after (g.C.Ask.asks c.args.ask x.number)))
    (said g.B.Naming.table (keys g.B.Naming.plan g.B.Naming.order) g.B.Naming.count c.pass.inside.who c.pass.inside.parts.items (account_deeds c.pass.inside.seat.me.0) (account_deeds c.ask-answer.new.mine.me.0)
    c.args.pass.now c.args.shard c.index_mut-part.result.now c.give.new.self c.pass.invariant.0 c.pass.view_is c.requires.shard c.index_mut-part.ensures.value c.lock-lock.ensures.number)
    (call_refused c.pass.inside.who (g.C.Ask.asks c.args.ask) g.C.Ask.replies c.index_mut-part.result.now c.take.new.self c.ask-answer.new.self c.give.new.self c.ask-answer.result c.take.ensures.same c.take.ensures.looked c.give.ensures.view
    c.ask-answer.ensures.refused)
