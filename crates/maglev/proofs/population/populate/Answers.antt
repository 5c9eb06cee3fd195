use Rattle.maglev.proofs.Laws.{places_left, population, only_one, owned, balanced}
use Rattle.maglev.proofs.population.populate.Goals as goal

pub name_owners-requires : goal.name_owners-requires
name_owners-requires c =
    places_left c.args.size 4294967295 c.args.backends.items c.take_turns.new.table.items c.take_turns.new.backends.items c.take_turns.ensures c.requires.some

pub returns-clause-population : goal.returns-clause-population
returns-clause-population c =
    rw c.name_owners.ensures
    (population c.args.size 4294967295 c.args.backends.items c.take_turns.new.table.items c.take_turns.new.backends.items c.take_turns.ensures c.requires.some)

pub returns-clause-only_one : goal.returns-clause-only_one
returns-clause-only_one c =
    rw c.name_owners.ensures
    (only_one c.args.size 4294967295 c.args.backends.items c.take_turns.new.table.items c.take_turns.new.backends.items c.take_turns.ensures c.requires.some)

pub returns-clause-owned : goal.returns-clause-owned
returns-clause-owned c =
    rw c.name_owners.ensures
    (owned c.args.size 4294967295 c.args.backends.items c.take_turns.new.table.items c.take_turns.new.backends.items c.take_turns.ensures c.requires.some)

pub returns-clause-balanced : goal.returns-clause-balanced
returns-clause-balanced c =
    rw c.name_owners.ensures
    (balanced c.args.size 4294967295 c.args.backends.items c.take_turns.new.table.items c.take_turns.new.backends.items c.take_turns.ensures c.requires.some)
