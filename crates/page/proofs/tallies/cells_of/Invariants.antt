use Rattle.std.proofs.Common.{◌≡◌}
use Rattle.page.specs.Tallies.{cells_until}
use Rattle.page.proofs.tallies.cells_of.Given as goal

abbrev pub invariant-rows : goal.invariant-rows
invariant-rows l = l.cells.items ≡ cells_until l.count l.slots l.classes l.place
