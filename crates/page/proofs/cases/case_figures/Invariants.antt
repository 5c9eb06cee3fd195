use Rattle.std.proofs.Common.{◌≡◌, string_bytes}
use Rattle.page.specs.Cases.{case_figures}
use Rattle.page.proofs.cases.case_figures.Given as goal

abbrev pub invariant-cases : goal.invariant-cases
invariant-cases l = string_bytes l.text ≡ case_figures l.totals l.case
