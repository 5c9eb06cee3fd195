use Rattle.std.proofs.Common.{◌∙◌}
use Rattle.page.proofs.TextLemmas.{next_text}
use Rattle.page.proofs.svg.row_at_height.Goals as goal

pub returns : goal.returns
returns c =
    next_text _ _ _ _ _ c.in_ok-text.ensures (c.as_str.ensures.value ∙ c.in_ok-back.ensures) c.in_ok-push_str.ensures.bytes
