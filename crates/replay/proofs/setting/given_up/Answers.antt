use Rattle.std.proofs.Common.{List, reverse, ap, ◌∙◌, subst}
use Rattle.std.proofs.lemmas.List.{reverse-reverse}
use Rattle.semantics.specs.declared.call.Entry.{Entry}
use Rattle.semantics.specs.History.{IsLegalHistory}
use Rattle.shards.specs.declared.deeds.Deed.{Deed}
use Rattle.shards.specs.Deeds.{made_on, AreFirst}
use Rattle.replay.proofs.WhyInTurn.{why_as_only_caller}
use Rattle.replay.proofs.setting.given_up.Goals as goal

pub returns-clause-refused : goal.returns-clause-refused
returns-clause-refused g c =
    let did = c.close_behind.ensures.did in
    let one = did.one in
    let why = c.requires.why in
    why_as_only_caller g.B.Naming.plan c.args.shards.maps c.args.shards.options g.B.Naming.count c.args.updates.now why.0 c.args.unset.pass c.args.unset.fault one.deeds
    c.planned.ensures.plans c.planned.ensures.options why.1 why.3
    (λ number below. subst (IsLegalHistory (g.B.Naming.plan number))
    (ap (λ (journal : List Entry). reverse journal) (one.journals_are number below) ∙ reverse-reverse (made_on number one.deeds)) (c.close_behind.ensures.legal number below))
    one.met (subst (λ (first : List Deed). AreFirst first one.deeds) c.first-first.ensures.first did.begins)
