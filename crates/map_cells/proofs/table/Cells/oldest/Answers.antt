use Rattle.map_cells.proofs.Allotment.{lowest_first}
use Rattle.map_cells.proofs.table.Cells.oldest.Goals as goal

pub returns-in-Some-clause-lowest : goal.returns-in-Some-clause-lowest
returns-in-Some-clause-lowest c = rw (← c.self.view_is) (lowest_first c.self.inside.place_of.places c.self.inside.retired.items c.in-Some.one.now c.self.invariant.waiting c.in-Some.ensures.lookup)
