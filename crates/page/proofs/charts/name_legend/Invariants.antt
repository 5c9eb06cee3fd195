use Rattle.std.proofs.Common.{◌≡◌, string_bytes}
use Rattle.page.specs.Charts.{name_legend}
use Rattle.page.proofs.charts.name_legend.Given as goal

abbrev pub invariant-names : goal.invariant-names
invariant-names l = string_bytes l.text ≡ name_legend l.commands l.named l.place
