use Rattle.std.proofs.Common.{◌≡◌}
use denote.Shadow.{shadow}
use denote.Text.{Utf8}
use Rattle.comparison.specs.Rows.{without_last}
use Rattle.comparison.proofs.rows.without_last.Given as goal

abbrev pub invariant-fields : goal.invariant-fields
invariant-fields l = (l.rest ≡ without_last l._place l.row) × shadow (Utf8 l.rest)
