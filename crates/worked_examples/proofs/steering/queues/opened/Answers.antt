use Rattle.std.proofs.Common.{◌<◌, length, arith}
use Rattle.atomic_table.proofs.Lists.{at_index}
use Rattle.worked_examples.proofs.steering.queues.opened.Goals as goal

-- the first of the rights to take is the worker's
pub returns-clause-take : goal.returns-clause-take
returns-clause-take c =
    let takes = c.in_ok-queues.takes.items in
    let within : 0 < length takes =
    (let size = c.in_ok-queues.ensures.take.0 in let one = c.in_ok-queues.ensures.workers in omega (arith, size, one)) in
    (c.in_ok-queues.ensures.take.1 0 c.remove-take.result (at_index takes 0 c.remove-take.result within c.remove-take.ensures.value)).0
