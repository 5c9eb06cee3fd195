use Rattle.std.proofs.Common.{◌∙◌, ℕ, List, ap, map}
use Rattle.page.specs.Named.{key_cell, with_busiest}
use Rattle.page.specs.Tallies.{counts_by_cell}
use Rattle.page.proofs.named.listed_keys.Goals as goal

pub returns : goal.returns
returns c =
    c.in_ok-put_busiest.ensures
    ∙ (ap (λ (it : List ℕ). with_busiest it c.in_ok-listed.listed.items 32) (c.deref.ensures.value ∙ c.in_ok-counts.ensures)
    ∙ ap (λ (it : List ℕ). with_busiest (counts_by_cell (map key_cell c.args.keys.now) 257) it 32) c.in_ok-listed.ensures)
