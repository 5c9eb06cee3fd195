use Rattle.actors.proofs.shared.Effects.{carried_out_counted, refused_counted}
use Rattle.actors.proofs.controller.apply_to.Goals as goal

pub returns-in-Ok-clause-effect : goal.returns-in-Ok-clause-effect
returns-in-Ok-clause-effect g c =
    carried_out_counted c.args.port.now c.apply.new.port g.B.Naming.plan (λ gated. gated.port) (λ gated. gated.tally.who) (λ gated. gated.tally.count)
    c.args.controller.now c.args.command.now.action c.apply.new.self c.in-Ok.field-0 c.requires.who c.in-Ok.ensures.first c.in-Ok.ensures.done

pub returns-in-Err-clause-effect : goal.returns-in-Err-clause-effect
returns-in-Err-clause-effect g c =
    refused_counted c.args.port.now c.apply.new.port g.B.Naming.plan (λ gated. gated.port) (λ gated. gated.tally.who) (λ gated. gated.tally.count)
    c.args.controller.now c.args.command.now.action c.in-Err.fault c.apply.new.self c.requires.who c.in-Err.ensures.first c.in-Err.ensures.left
