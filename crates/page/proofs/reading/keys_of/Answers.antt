use Rattle.std.proofs.Common.{◌∙◌, List, ℕ, Bor, sym}
use Rattle.std.proofs.lemmas.Simd.{map-map}
use Rattle.page.specs.Reading.{key_of_backend}
use Rattle.page.proofs.reading.keys_of.Goals as goal

pub returns : goal.returns
returns c = c.in_ok-keys.ensures ∙ sym (map-map key_of_backend (λ (row : Bor (List ℕ)). row.now) c.args.rows.now)
