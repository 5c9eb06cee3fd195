use Rattle.std.proofs.Common.{◌∙◌, ℕ, ap, sym, add-one}
use Rattle.page.specs.Svg.{marks_until}
use Rattle.page.proofs.TextLemmas.{next_text}
use Rattle.page.proofs.svg.marks_of.Goals as goal

pub commands-preserved : goal.commands-preserved
commands-preserved c =
    next_text _ _ _ _ _ c.commands.invariant (c.as_str.ensures.value ∙ c.in_ok-mark.ensures) c.in_ok-push_str.ensures.bytes
    ∙ ap (λ (n : ℕ). marks_until c.args.slots.now n) (sym (add-one c.commands.place))
