use Rattle.std.proofs.Common.{◌≡◌}
use denote.Shadow.{shadow}
use denote.Text.{Utf8}
use Rattle.comparison.specs.Rows.{fields_from, right_fields}
use Rattle.comparison.proofs.rows.right_fields.Given as goal

abbrev pub invariant-columns : goal.invariant-columns
invariant-columns l = record {
  rest : l.rest ≡ fields_from l.place l.line;
  text : shadow (Utf8 l.rest);
  count : l.count ≡ right_fields l.line l.place;
}
