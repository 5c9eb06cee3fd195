use Rattle.std.proofs.Common.{subst}
use Rattle.rx_queues.specs.Passes.{jobs_put}
use Rattle.actors.specs.Actors.{AreHandedOver}
use Rattle.actors.specs.Shares.{frames_of}
use Rattle.actors.proofs.shared.DispatchLemmas.{commands_handed}
use Rattle.actors.proofs.dispatch.Dispatch.hand_due.Goals as goal

pub returns-clause-dispatched : goal.returns-clause-dispatched
returns-clause-dispatched g c =
    let self = c.args.self.now in
    let end = c.due-end.result in
    commands_handed (frames_of self.capture.now.records.items) self.starts.now self.workers c.args.number self.first c.args.next end
    (jobs_put c.args.put.now) (jobs_put c.hand_commands.new.put) c.requires.dispatched
    (subst (λ n. AreHandedOver n c.args.next end (jobs_put c.args.put.now) (jobs_put c.hand_commands.new.put)) self.few.0 c.hand_commands.ensures.put)
    c.due-end.ensures
