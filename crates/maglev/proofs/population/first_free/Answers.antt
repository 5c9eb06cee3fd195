use Rattle.std.proofs.Common.{arith}
use Rattle.maglev.proofs.Searching.{IsReached-all}
use Rattle.maglev.proofs.population.first_free.Goals as goal

pub unreachable-requires : goal.unreachable-requires
unreachable-requires c =
    IsReached-all c.args.size c.args.preference c.args.table.now.items 4294967295 c.choices._choice c.choices.slot
    (omega arith) c.requires.served c.requires.fits c.requires.some_free (omega arith) c.choices.invariant
