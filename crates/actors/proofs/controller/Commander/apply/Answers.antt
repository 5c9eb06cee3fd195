use Rattle.std.proofs.Common.{[], ◌∷◌, ◌++◌, ap, ◌∙◌, subst}
use Rattle.actors.specs.Commands.{CommanderView, HasAccountBehind, OfEachAccount}
use Rattle.actors.proofs.shared.CommandAccounts.{commander_more, commander_behind}
use Rattle.actors.proofs.controller.Commander.apply.Goals as goal

pub invariant_of-self-2 : goal.invariant_of-self-2
invariant_of-self-2 g c =
    commander_more g.B.Naming.plan c.self.inside.updates.now c.self.inside.script.now c.self.inside.noted.items _ c.self.inside.controller _ c.self.inside.port.port _
    c.command_at-command.result.now (record { command = c.args.number; fault = c.apply_to-fault.result }) c.self.invariant
    (c.push_reserved.ensures.items ∙ ap (λ items. items ++ (record { command = c.args.number; fault = c.apply_to-fault.result }) ∷ []) c.reserve.ensures.items)
    c.command_at-command.ensures c.apply_to-fault.ensures.effect c.apply_to-fault.ensures.size

pub returns-clause-more : goal.returns-clause-more
returns-clause-more g c =
    let now : CommanderView = record {
      updates = c.self.inside.updates.now;
      script = c.self.inside.script.now;
      noted = c.push_reserved.new.self.items;
      controller = c.apply_to-fault.new.controller;
      port = c.apply_to-fault.new.port.port;
    } in
    subst (λ (view : CommanderView). OfEachAccount g.B.Naming.plan view (HasAccountBehind g.B.Naming.plan now)) c.self.view_is
    (commander_behind g.B.Naming.plan c.self.inside.updates.now c.self.inside.script.now c.self.inside.noted.items c.push_reserved.new.self.items
    c.self.inside.controller c.apply_to-fault.new.controller c.self.inside.port.port c.apply_to-fault.new.port.port
    c.command_at-command.result.now (record { command = c.args.number; fault = c.apply_to-fault.result })
    (c.push_reserved.ensures.items ∙ ap (λ items. items ++ (record { command = c.args.number; fault = c.apply_to-fault.result }) ∷ []) c.reserve.ensures.items)
    c.command_at-command.ensures c.apply_to-fault.ensures.effect c.apply_to-fault.ensures.size)
