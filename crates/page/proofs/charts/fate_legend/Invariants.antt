use Rattle.std.proofs.Common.{◌≡◌, string_bytes}
use Rattle.page.specs.Charts.{fate_legend}
use Rattle.page.proofs.charts.fate_legend.Given as goal

abbrev pub invariant-fates : goal.invariant-fates
invariant-fates l = string_bytes l.text ≡ fate_legend l.fate
