use Rattle.std.proofs.Common.{◌∙◌, ℕ, List, IfErr, refl, subst, sym}
use Rattle.comparison.specs.Rows.{IsUnread}
use Rattle.comparison.specs.Rows.IsNoReport.{no_head, no_text}
use Rattle.comparison.specs.Rows.IsUnread.{is_no_report}
use Rattle.comparison.proofs.rows.rows_in.Goals as goal

pub returns-in-Err-clause-refused : goal.returns-in-Err-clause-refused
returns-in-Err-clause-refused c = is_no_report (c.begins_as_json.ensures.otherwise c.if-begins_as_json.false) (no_text c.in-Err.line c.in-Err.ensures.no_text refl)

pub returns-in-Some-clause-refused : goal.returns-in-Some-clause-refused
returns-in-Some-clause-refused c =
    subst (λ (it : List ℕ). IfErr c.rows_of.result (λ none. IsUnread it none))
    (sym c.in-Some.ensures.begins ∙ c.in-Ok.ensures.text.0) c.rows_of.ensures.refused

pub returns-in-None-clause-refused : goal.returns-in-None-clause-refused
returns-in-None-clause-refused c =
    is_no_report (c.begins_as_json.ensures.otherwise c.if-begins_as_json.false)
    (no_head (λ rest is. c.in-None.ensures.none rest (c.in-Ok.ensures.text.0 ∙ is)) refl)
