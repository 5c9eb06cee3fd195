use Rattle.std.proofs.Common.{ℕ, List, Bor, arith, map, refl, subst}
use Rattle.std.proofs.lemmas.List.{length-map}
use Rattle.flows.specs.Reports.{IsCountInPlace}
use Rattle.flows.specs.Reports.AreFlowsRefused.{is_left_out}
use Rattle.flows.proofs.reading.whole_report.Goals as goal

pub returns-then-count-len-clause-refused : goal.returns-then-count-len-clause-refused
returns-then-count-len-clause-refused c =
    let now : Bor (List ℕ) → List ℕ = λ row. row.now in
    is_left_out (map now c.in_ok-rows.rows.items) c.in_ok-count.count c.in_ok-rows.ensures.rows
    (subst (λ (it : List (Bor (List ℕ))). IsCountInPlace (map now it) c.in_ok-count.count) c.deref.ensures.value c.in_ok-count.ensures)
    (omega (arith, c.if-count-len.true, c.len.ensures, c.in_ok-rows.rows.ok.0, length-map c.in_ok-rows.rows.items now)) refl
