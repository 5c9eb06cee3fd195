use Rattle.std.proofs.Common.{◌∙◌, ◌++◌, ◌∷◌, [], List, ap, arith, subst, sym, take}
use Rattle.std.specs.List.{AllByRecursion}
use Rattle.control.specs.declared.command.Command.{Command}
use Rattle.control.specs.ScriptText.{CommandFits}
use Rattle.control.specs.Renumbering.{at_frames}
use Rattle.control.proofs.Renumbered.{at_frames_more, fit_more}
use Rattle.control.proofs.renumbering.renumbered.Goals as goal

pub commands-preserved : goal.commands-preserved
commands-preserved c =
    let within = c.commands-test.true in
    let many = c.requires in
    let place = c.commands.place in
    let items = c.in_ok-push.ensures.items in (
      items
          ∙ ap (λ (made : List Command). made ++ c.at_frame.result ∷ []) c.commands.invariant.0
          ∙ ap (λ (one : Command). at_frames (take place c.args.frames.now) (take place c.args.commands.now) ++ one ∷ []) c.at_frame.ensures.at
          ∙ sym (at_frames_more place c.args.frames.now c.args.commands.now _ (omega (arith, many, within)) within),
      subst (AllByRecursion CommandFits) (sym items) (fit_more c.commands.made.items c.at_frame.result c.commands.invariant.1 c.at_frame.ensures.fits),
    )
