use Rattle.std.proofs.Common.{◌∙◌, List, ℕ, Bor, sym}
use Rattle.std.proofs.lemmas.Simd.{map-map}
use Rattle.page.specs.Reading.{fate_of_record}
use Rattle.page.proofs.reading.fates_of.Goals as goal

pub returns : goal.returns
returns c = c.in_ok-fates.ensures ∙ sym (map-map fate_of_record (λ (row : Bor (List ℕ)). row.now) c.args.rows.now)
