use Rattle.std.proofs.Common.{◌≡◌, string_bytes}
use Rattle.page.specs.Halves.{half_rows}
use Rattle.page.proofs.halves.half_rows.Given as goal

abbrev pub invariant-rows : goal.invariant-rows
invariant-rows l = string_bytes l.text ≡ half_rows l.commands l.listed l.before l.behind l.place
