use Rattle.std.proofs.Common.{◌∙◌, ℕ, ap}
use Rattle.page.specs.Tables.{fate_figures, figures_text}
use Rattle.page.proofs.TextLemmas.{of_same, same_three}
use Rattle.page.proofs.whole.figures_of.Goals as goal

pub returns : goal.returns
returns c =
    of_same _ _ _ c.figures_text.ensures
    (same_three (λ a b d. figures_text c.args.records a c.args.moves b d) _ _ _ _ _ _
    (c.as_str.ensures.value ∙ (c.in_ok-fates.ensures ∙ ap (λ (n : ℕ). fate_figures c.args.totals.now n) c.fates_named.ensures.named))
    (c.as_str-2.ensures.value ∙ c.in_ok-first.ensures) (c.as_str-3.ensures.value ∙ c.in_ok-last.ensures))
