use Rattle.std.proofs.Common.{◌≡◌}
use denote.Shadow.{shadow}
use denote.Text.{Utf8}
use Rattle.comparison.specs.Rows.{fields_from}
use Rattle.comparison.proofs.rows.fields_from.Given as goal

abbrev pub invariant-fields : goal.invariant-fields
invariant-fields l = (l.rest ≡ fields_from l._place l.line) × shadow (Utf8 l.rest)
