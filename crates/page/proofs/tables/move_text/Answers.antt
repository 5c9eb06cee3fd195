use Rattle.std.proofs.Common.{◌∙◌}
use Rattle.page.specs.Tables.{move_text}
use Rattle.page.proofs.TextLemmas.{next_text}
use Rattle.page.proofs.tables.move_text.Goals as goal

pub returns : goal.returns
unfolding move_text
returns c =
    next_text _ _ _ _ _ c.in_ok-text.ensures (c.as_str.ensures.value ∙ c.in_ok-back.ensures) c.in_ok-push_str.ensures.bytes
