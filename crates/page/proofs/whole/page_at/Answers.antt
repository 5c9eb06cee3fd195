use Rattle.std.proofs.Common.{◌∙◌, ℕ, ap, map}
use Rattle.page.specs.Html.{whole_text}
use Rattle.page.specs.Page.{commands_and_shares, figures_in, page_at}
use Rattle.page.proofs.TextLemmas.{of_same, same_six}
use Rattle.page.proofs.whole.page_at.Goals as goal

pub returns : goal.returns
unfolding page_at
returns c =
    of_same _ _ _ c.whole_text.ensures
    (same_six whole_text _ _ _ _ _ _ _ _ _ _ _ _
    (c.as_str.ensures.value ∙ (c.in_ok-figures.ensures
    ∙ ap (λ (n : ℕ). figures_in (map (λ row. row.now) c.args.rows.now) n c.args.first c.args.last) c.in_ok-count.ensures.count))
    (c.as_str-2.ensures.value ∙ c.in_ok-by_backend.ensures) (c.as_str-3.ensures.value ∙ c.in_ok-by_fate.ensures)
    (c.as_str-4.ensures.value ∙ c.in_ok-backends.ensures) (c.as_str-5.ensures.value ∙ (c.in_ok-listing.ensures
    ∙ ap (λ (n : ℕ). commands_and_shares n c.args.moments.now c.args.last c.args.later.now c.args.shares.now) c.first_count-before.ensures))
    (c.as_str-6.ensures.value ∙ c.in_ok-count.ensures.text))
