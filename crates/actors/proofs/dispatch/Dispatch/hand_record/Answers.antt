use Rattle.std.proofs.Common.{◌+◌, ◌<◌, ◌%◌, ◌==◌, sym, subst, if◌then◌else◌, [], ◌∷◌}
use Rattle.std.proofs.lemmas.List.{length-map}
use Rattle.wire.specs.declared.records.Sent.{Sent}
use Rattle.rx_queues.specs.declared.job.Job.TheVariants.{Note}
use Rattle.rx_queues.specs.Passes.{jobs_put}
use Rattle.actors.specs.Actors.{ArePutAt}
use Rattle.actors.specs.Shares.{frames_of, frame_at}
use Rattle.actors.proofs.shared.DispatchLemmas.{record_dispatched}
use Rattle.actors.proofs.shared.PutLemmas.{worker_below}
use Rattle.actors.proofs.dispatch.Dispatch.hand_record.Goals as goal

pub returns-clause-dispatched : goal.returns-clause-dispatched
returns-clause-dispatched g c =
    let self = c.args.self.now in
    let records = self.capture.now.records.items in
    let frames = frames_of records in
    record_dispatched frames self.starts.now self.workers c.args.number self.first c.args.next (jobs_put c.args.put.now) (jobs_put c.hand.new.put)
    (jobs_put c.ask_due_round.new.put) (worker_below (frame_at frames c.args.number) self.workers self.few.1)
    (subst (λ n. c.args.number < n) (sym (length-map records (λ (sent : Sent). sent.bytes.items))) c.requires.number)
    c.requires.none_due c.requires.dispatched c.hand.ensures.put
    (subst (λ n. ArePutAt (n + 1) (if (c.args.number + 1) % 64 == 0 then Note ∷ [] else []) (jobs_put c.hand.new.put) (jobs_put c.ask_due_round.new.put))
    self.few.0 c.ask_due_round.ensures.put)
