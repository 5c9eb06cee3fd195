use Rattle.std.proofs.Common.{sym, ap, ◌∙◌, subst}
use Rattle.actors.specs.Commands.{CommanderView, HasAccount}
use Rattle.actors.specs.Parts.{numbers_of}
use Rattle.replay.proofs.PartLemmas.{begun_with}
use Rattle.replay.proofs.setting.new_controller.Goals as goal

pub returns-clause-first : goal.returns-clause-first
returns-clause-first g c =
    let same = c.in_ok-count.ensures.same in
    let over = c.over-commander.ensures in
    let still = c.first-first.ensures.same in
    begun_with g.B.Naming.plan c.args.shards.now.maps c.args.shards.now.options c.args.updates.now c.args.script.now c.first-first.new.self c.args.starts.now
    c.in_ok-count.count c.first-first.result
    (ap (λ (v : CommanderView). v.port.maps) still ∙ same.1 ∙ over.maps) (ap (λ (v : CommanderView). v.port.options) still ∙ same.2 ∙ over.options)
    (ap (λ (v : CommanderView). v.updates) still ∙ same.4 ∙ over.updates) (ap (λ (v : CommanderView). v.script) still ∙ same.0 ∙ over.script ∙ c.commands-commands.ensures)
    (ap (λ (v : CommanderView). numbers_of v.noted) still ∙ c.in_ok-count.ensures.first.0) c.requires.starts c.in_ok-count.ensures.due
    (subst (HasAccount g.B.Naming.plan) (sym still) c.has_account.ensures) (c.first-first.ensures.first ∙ ap (λ (v : CommanderView). v.port.pass.deeds) (sym still))
