use Rattle.std.proofs.Common.{◌≡◌, ◌∙◌, ap}
use Rattle.std.proofs.lemmas.Result.{IfOk-weaker}
use Rattle.clap.specs.Simple.{App, app_of, with_rule}
use Rattle.clap.specs.Walk.{Rule}
use Rattle.command_line.specs.CommandLine.{with_cares}
use Rattle.command_line.proofs.grammar.with_limits.Goals as goal

pub returns-clause-app : goal.returns-clause-app
returns-clause-app c =
    let first = c.in_ok-arg.ensures.shape c.switch-no_journals.ensures.local in
    let one = first ∙ ap (λ (rule : Rule). with_rule (app_of c.args.command) rule) c.switch-no_journals.ensures.rule in
    IfOk-weaker c.with_cares.result _ _ (λ added adds. adds ∙ ap (λ (app : App). with_cares app) one) c.with_cares.ensures.app
