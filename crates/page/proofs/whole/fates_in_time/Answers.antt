use Rattle.std.proofs.Common.{◌∙◌, ℕ, ap}
use Rattle.page.specs.Page.{by_fate, fates_in_time}
use Rattle.page.specs.Tallies.{time_slots}
use Rattle.page.proofs.TextLemmas.{of_same, same_three}
use Rattle.page.proofs.whole.fates_in_time.Goals as goal

pub returns : goal.returns
unfolding fates_in_time
returns c =
    of_same _ _ _ c.by_fate.ensures
    (same_three (λ a b d. by_fate a b c.args.first c.args.last d) _ _ _ _ _ _ (c.deref.ensures.value ∙ c.in_ok-fates.ensures)
    (c.deref-2.ensures.value
    ∙ (c.in_ok-slots.ensures ∙ ap (λ (n : ℕ). time_slots c.args.first n c.args.moments.now) c.slot_length.ensures))
    (c.as_str.ensures.value ∙ c.in_ok-marks.ensures))
