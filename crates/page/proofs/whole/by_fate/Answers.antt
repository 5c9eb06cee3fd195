use Rattle.std.proofs.Common.{◌∙◌}
use Rattle.page.specs.Charts.{fates_over_time}
use Rattle.page.proofs.TextLemmas.{of_same, same_three}
use Rattle.page.proofs.whole.by_fate.Goals as goal

pub returns : goal.returns
returns c =
    of_same _ _ _ c.fates_over_time.ensures
    (same_three (λ a b d. fates_over_time a c.args.fates.now c.args.slots.now b d c.args.marks.now) _ _ _ _ _ _
    (c.deref.ensures.value ∙ c.in_ok-totals.ensures) (c.as_str.ensures.value ∙ c.in_ok-first.ensures)
    (c.as_str-2.ensures.value ∙ c.in_ok-last.ensures))
