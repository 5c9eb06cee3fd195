use Rattle.std.proofs.Common.{◌≡◌, ◌++◌, take, drop}
use Rattle.maglev.specs.Turns.{owners_of}
use Rattle.maglev.proofs.population.name_owners.Given as goal

abbrev pub invariant-slots : goal.invariant-slots
invariant-slots l =
    l.owner-items ≡ owners_of l.backends.items (take l.owner-index l.fn.table.items) ++ drop l.owner-index l.fn.table.items
