use Rattle.std.proofs.Common.{arith, ◌≡◌, ◌∙◌, ℕ, ◌+◌, List, Bor, ap, refl, length, map, subst}
use Rattle.std.proofs.lemmas.List.{length-map}
use Rattle.comparison.specs.Rows.{IsRowCount, ended_lines, last_line, lines_of, row_at, why_no_row}
use Rattle.comparison.specs.Rows.IsNoReport.{no_row}
use Rattle.comparison.specs.Rows.IsUnread.{is_no_report}
use Rattle.comparison.proofs.RowLemmas.{head_is_no_json}
use Rattle.comparison.proofs.rows.rows_of.Goals.{else-behind-eq0-via-then-behind-eq0+else-count-len, else-behind-eq0-via-else-behind-eq0}
use Rattle.comparison.proofs.rows.rows_of.Goals as goal

pub returns-clause-refused : goal.returns-clause-refused
returns-clause-refused c =
    let now : Bor (List ℕ) → List ℕ = λ line. line.now in
    let lines_are : map now c.drop_last.new.lines.items ≡ ended_lines (lines_of c.args.rest.now) =
    c.drop_last.ensures ∙ ap ended_lines c.in_ok-lines.ensures in
    let counted : IsRowCount (ended_lines (lines_of c.args.rest.now)) c.row_count-count.result =
    subst (λ (it : List (List ℕ)). IsRowCount it c.row_count-count.result)
    (ap (λ (it : List (Bor (List ℕ))). map now it) c.deref-2.ensures.value ∙ lines_are) c.row_count-count.ensures in
    let last_is : c.last_line-behind.result.now ≡ last_line (lines_of c.args.rest.now) =
    c.last_line-behind.ensures
    ∙ (ap (λ (it : List (Bor (List ℕ))). last_line (map now it)) c.deref.ensures.value ∙ ap last_line c.in_ok-lines.ensures) in
    let row_is : c.row_at.result.now ≡ row_at (ended_lines (lines_of c.args.rest.now)) c.row_count-count.result =
    c.row_at.ensures
    ∙ (ap (λ (it : List (Bor (List ℕ))). row_at (map now it) c.row_count-count.result) c.deref-else-behind-eq0.ensures.value
    ∙ ap (λ (it : List (List ℕ)). row_at it c.row_count-count.result) lines_are) in
    is_no_report (head_is_no_json c.args.rest.now) (no_row c.args.rest.now c.row_count-count.result refl counted (λ at_end empty.
    elim c.else-behind-eq0.branch [
      | else-behind-eq0-via-then-behind-eq0+else-count-len w ↦ omega (
        arith,
        w.if-count-len.false,
        at_end,
        w.len.ensures,
        c.drop_last.new.lines.ok.0,
        length-map c.drop_last.new.lines.items now,
        ap length lines_are,
      )
      | else-behind-eq0-via-else-behind-eq0 w ↦ omega (arith, w.if-behind-eq0.false, empty, ap length last_is)
    ]) (c.why_no_row.ensures ∙ ap (λ (it : List ℕ). why_no_row it (2 + c.row_count-count.result)) row_is))
