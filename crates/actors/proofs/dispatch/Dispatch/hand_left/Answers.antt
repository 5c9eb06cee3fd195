use Rattle.std.proofs.Common.{length, sym, subst}
use Rattle.std.proofs.lemmas.List.{length-map}
use Rattle.wire.specs.declared.records.Sent.{Sent}
use Rattle.rx_queues.specs.Passes.{jobs_put}
use Rattle.actors.specs.Actors.{AreHandedOver}
use Rattle.actors.specs.Shares.{frames_of}
use Rattle.actors.proofs.shared.DispatchLemmas.{commands_left}
use Rattle.actors.proofs.dispatch.Dispatch.hand_left.Goals as goal

pub returns-clause-dispatched : goal.returns-clause-dispatched
returns-clause-dispatched g c =
    let self = c.args.self.now in
    let records = self.capture.now.records.items in
    let all = length self.starts.now in
    commands_left (frames_of records) self.starts.now self.workers (length records) self.first c.args.next
    (jobs_put c.args.put.now) (jobs_put c.hand_commands.new.put) (sym (length-map records (λ (sent : Sent). sent.bytes.items))) c.requires.dispatched
    (subst (λ n. AreHandedOver n c.args.next all (jobs_put c.args.put.now) (jobs_put c.hand_commands.new.put)) self.few.0 c.hand_commands.ensures.put)
