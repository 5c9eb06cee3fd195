use Rattle.std.proofs.Common.{◌∙◌, ◌≤◌, List, ap, arith, subst, sym}
use Rattle.std.specs.List.{prefix_len}
use Rattle.control.specs.declared.command.Command.{Command}
use Rattle.flows.specs.Settings.{before, is_due}
use Rattle.flows.proofs.SettingLemmas.{due_end, due_more}
use Rattle.flows.proofs.settings.Settings.advance.Goals as goal

pub commands-preserved : goal.commands-preserved
commands-preserved c =
    let more =
    due_more c.args.place c.commands.self.commands.now c.commands.self.done c.commands.invariant.0.due
    (sym c.is_next_due.ensures ∙ c.commands-test.true) in (
      record {
        knows = c.in_ok-step.ensures.knows;
        due = subst (λ (it : List Command). c.step.new.self.done ≤ prefix_len (is_due c.args.place) it) (sym c.in_ok-step.ensures.same)
            (omega (arith, more, c.in_ok-step.ensures.further));
      },
      c.in_ok-step.ensures.same ∙ c.commands.invariant.1,
    )

pub returns-clause-before : goal.returns-clause-before
returns-clause-before c =
    due_end c.args.place c.commands.self.commands.now c.commands.self.done c.commands.invariant.0.due
    (sym c.is_next_due.ensures ∙ c.commands-test.false) ∙ ap (before c.args.place) c.commands.invariant.1
