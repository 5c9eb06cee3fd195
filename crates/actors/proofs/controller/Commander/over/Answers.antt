use Rattle.std.proofs.Common.{List, sym, ap, ◌∙◌, subst}
use Rattle.ebpf_decode.specs.declared.map.MapDef.{MapDef}
use Rattle.actors.specs.Commands.{HasSet, ServesScript}
use Rattle.actors.specs.SharedUpdates.{UpdatesView}
use Rattle.actors.proofs.shared.CommandAccounts.{commander_of_nothing}
use Rattle.actors.proofs.controller.Commander.over.Goals as goal

pub invariant_of-result : goal.invariant_of-result
invariant_of-result g c =
    let is = c.over.ensures in
    commander_of_nothing g.B.Naming.plan c.args.updates.now c.args.script.now c.new-2.result.items c.args.size c.in-Ok.controller c.over.result
    (subst (λ (port : UpdatesView). HasSet port.maps port.options c.args.updates.now port.pass) (sym is) c.requires.set)
    (ap (λ (port : UpdatesView). port.pass.who) is ∙ c.requires.who)
    (subst (λ (maps : List MapDef). ServesScript maps c.args.size c.args.script.now) (sym (ap (λ (port : UpdatesView). port.maps) is)) c.requires.serves)
    c.new-2.ensures.items c.in-Ok.ensures.opened
