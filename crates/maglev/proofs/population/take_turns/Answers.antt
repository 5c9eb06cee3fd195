use Rattle.std.proofs.Common.{arith}
use Rattle.maglev.proofs.Taking.{AreTurnsTaken-start, some_free, read_fits, turn_taken}
use Rattle.maglev.proofs.population.take_turns.Goals as goal

pub turns-init : goal.turns-init
turns-init c =
    AreTurnsTaken-start c.args.size 4294967295 c.args.backends.now.items c.args.table.now.items (omega arith) c.requires.fits c.requires.all_free

pub first_free-slot-requires-clause-fits : goal.first_free-slot-requires-clause-fits
first_free-slot-requires-clause-fits c =
    read_fits c.args.size 4294967295 c.args.backends.now.items c.turns.turn c.turns.table.items c.turns.backends.items c.turns.invariant
    c.requires.some c.len-count.result (omega arith) c.index-preference.result.now c.index-preference.ensures c.requires.fits

pub first_free-slot-requires-clause-some_free : goal.first_free-slot-requires-clause-some_free
first_free-slot-requires-clause-some_free c =
    some_free c.args.size 4294967295 c.args.backends.now.items c.turns.turn c.turns.table.items c.turns.backends.items c.turns.invariant (omega arith)

pub turns-preserved : goal.turns-preserved
turns-preserved c =
    turn_taken c.args.size 4294967295 c.args.backends.now.items c.turns.turn c.turns.table.items c.turns.backends.items c.turns.invariant
    c.requires.some c.len-count.result (omega arith) c.index-preference.result.now c.index-preference.ensures
    c.first_free-slot.result (omega arith) (omega arith) c.first_free-slot.ensures.first c.first_free-slot.ensures.within
