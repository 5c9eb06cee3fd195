use Rattle.std.proofs.Common.{◌∙◌, List, ℕ, Bor, sym}
use Rattle.std.proofs.lemmas.Simd.{map-map}
use Rattle.page.specs.Reading.{micros_of_row}
use Rattle.page.proofs.reading.moments_of.Goals as goal

pub returns : goal.returns
returns c = c.in_ok-moments.ensures ∙ sym (map-map micros_of_row (λ (row : Bor (List ℕ)). row.now) c.args.rows.now)
