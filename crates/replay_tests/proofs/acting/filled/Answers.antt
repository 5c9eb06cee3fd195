use Rattle.std.proofs.Common.{◌<◌, length, arith}
use Rattle.atomic_table.proofs.Lists.{at_index}
use Rattle.replay_tests.proofs.acting.filled.Goals as goal

pub returns-clause-take : goal.returns-clause-take
returns-clause-take g c =
    let takes = c.in_ok-queues.takes.items in
    let within : c.args.place < length takes =
    (let size = c.in_ok-queues.ensures.take.0 in let one = c.in_ok-queues.ensures.workers in let few = c.requires.place.1 in omega (arith, size, one, few)) in
    let it = c.in_ok-queues.ensures.take.1 c.args.place c.remove-take.result (at_index takes c.args.place c.remove-take.result within c.remove-take.ensures.value) in
    it
