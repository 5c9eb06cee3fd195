use Rattle.std.proofs.Common.{rules, ◌≡◌, ℕ, List, Bor, map, string_bytes, subst, sym}
use Rattle.comparison.specs.Comparing.{AreAlike, AreCompared, AreOthers, IsFileUnread, IsUnlike}
use Rattle.comparison.specs.Comparing.IsUnlike.{first_unread, not_alike, second_unread}
use Rattle.comparison.specs.Rows.{IsReport}
use Rattle.comparison.specs.declared.fault.Which.TheVariants.{First, Second}
use Rattle.comparison.specs.declared.comparing.Comparison.{Comparison}
use Rattle.comparison.specs.declared.fault.Unlike.{Unlike}
use Rattle.comparison.proofs.Outcomes.{under_err, under_ok}
use Rattle.comparison.proofs.comparing.compare.Goals as goal

-- the rows behind a reference are those that were read
again : (bytes : List ℕ) (found seen : List (Bor (List ℕ))) → seen ≡ found → IsReport bytes (map (λ row. row.now) found)
    → IsReport bytes (map (λ row. row.now) seen)
again bytes found seen same report = subst (λ (it : List (Bor (List ℕ))). IsReport bytes (map (λ row. row.now) it)) (sym same) report

pub returns-clause-compared : goal.returns-clause-compared
returns-clause-compared c =
    under_ok (λ (it : Comparison). AreAlike (map (λ row. row.now) c.deref.result.now) (map (λ row. row.now) c.deref-2.result.now)
    (string_bytes it.text) it.differs)
    (λ (it : Comparison). AreCompared c.args.first.now c.args.second.now (string_bytes it.text) it.differs)
    (λ it alike. record {
      first_rows = map (λ row. row.now) c.deref.result.now;
      second_rows = map (λ row. row.now) c.deref-2.result.now;
      first_report = again _ _ _ c.deref.ensures.value c.in_ok-first_rows.ensures.rows;
      second_report = again _ _ _ c.deref-2.ensures.value c.in_ok-second_rows.ensures.rows;
      alike = alike;
    }) c.alike.result c.alike.ensures.compared

pub returns-clause-refused : goal.returns-clause-refused
returns-clause-refused c =
    under_err (λ (it : Unlike). AreOthers (map (λ row. row.now) c.deref.result.now) (map (λ row. row.now) c.deref-2.result.now) it)
    (λ (it : Unlike). IsUnlike c.args.first.now c.args.second.now it)
    (λ it others. not_alike _ _ (again _ _ _ c.deref.ensures.value c.in_ok-first_rows.ensures.rows)
    (again _ _ _ c.deref-2.ensures.value c.in_ok-second_rows.ensures.rows) others) c.alike.result c.alike.ensures.refused

pub returns-in_err-first_rows-clause-refused : goal.returns-in_err-first_rows-clause-refused
returns-in_err-first_rows-clause-refused c =
    under_err (λ (it : Unlike). IsFileUnread First c.args.first.now it) (λ (it : Unlike). IsUnlike c.args.first.now c.args.second.now it)
    (λ it unread. first_unread unread) c.from_residual.result (search rules)

pub returns-in_err-second_rows-clause-refused : goal.returns-in_err-second_rows-clause-refused
returns-in_err-second_rows-clause-refused c =
    under_err (λ (it : Unlike). IsFileUnread Second c.args.second.now it) (λ (it : Unlike). IsUnlike c.args.first.now c.args.second.now it)
    (λ it unread. second_unread _ c.in_ok-first_rows.ensures.rows unread) c.from_residual-in_err-second_rows.result (search rules)
