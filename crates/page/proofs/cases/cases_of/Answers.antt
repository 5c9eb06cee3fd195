use Rattle.std.proofs.Common.{◌∙◌, List, ℕ, Bor, sym}
use Rattle.std.proofs.lemmas.Simd.{map-map}
use Rattle.page.specs.Cases.{case_of_record}
use Rattle.page.proofs.cases.cases_of.Goals as goal

pub returns : goal.returns
returns c = c.in_ok-cases.ensures ∙ sym (map-map case_of_record (λ (row : Bor (List ℕ)). row.now) c.args.rows.now)
