use Rattle.std.proofs.Common.{◌≡◌, string_bytes}
use Rattle.page.specs.Tables.{fate_figures}
use Rattle.page.proofs.tables.fate_figures.Given as goal

abbrev pub invariant-fates : goal.invariant-fates
invariant-fates l = string_bytes l.text ≡ fate_figures l.totals l.fate
