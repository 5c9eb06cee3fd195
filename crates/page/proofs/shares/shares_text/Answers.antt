use Rattle.std.proofs.Common.{◌∙◌, List, ℕ, ap}
use Rattle.page.specs.Shares.{shares_table, shares_text}
use Rattle.page.proofs.TextLemmas.{of_same}
use Rattle.page.proofs.shares.shares_text.Goals as goal

pub returns : goal.returns
unfolding shares_text
returns c =
    of_same _ _ _ c.shares_table.ensures (ap (λ (it : List ℕ). shares_table it) (c.as_str.ensures.value ∙ c.in_ok-rows.ensures))
