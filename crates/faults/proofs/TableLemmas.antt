-- Rows of the table of faults.
use Rattle.std.proofs.Common.{◌≡◌, ℕ, sym, subst}
use Rattle.faults.specs.declared.explanation.Explanation.{Explanation}
use Rattle.faults.specs.FaultTable.{IsRowOf}

-- the row of a number that is another by a fact
pub row_by : (number known : ℕ) (row : Explanation) → number ≡ known → IsRowOf known row → IsRowOf number row
row_by number known row is found = subst (λ (n : ℕ). IsRowOf n row) (sym is) found
