use Rattle.std.proofs.Common.{◌≡◌, string_bytes}
use Rattle.page.specs.Charts.{backend_rows}
use Rattle.page.proofs.charts.backend_rows.Given as goal

abbrev pub invariant-backends : goal.invariant-backends
invariant-backends l = string_bytes l.text ≡ backend_rows l.commands l.named l.listed l.totals l.highest l.place
