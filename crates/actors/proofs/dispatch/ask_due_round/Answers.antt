use Rattle.std.proofs.Common.{◌+◌, arith}
use Rattle.std.proofs.lemmas.Bool.Decides.{nat_tests}
use Rattle.rx_queues.specs.Passes.{jobs_put, workers_of}
use Rattle.actors.proofs.shared.HandLemmas.{round_due}
use Rattle.actors.proofs.dispatch.ask_due_round.Goals as goal

pub returns-then-number-eq0-clause-put : goal.returns-then-number-eq0-clause-put
returns-then-number-eq0-clause-put g c =
    round_due (workers_of c.args.queues.now + 1) c.args.number (jobs_put c.args.put.now) (jobs_put c.ask_round.new.put)
    (let is = c.if-number-eq0.true in grind (arith, nat_tests, is))
    c.ask_round.ensures.put
