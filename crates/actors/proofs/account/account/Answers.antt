use Rattle.std.proofs.Common.{◌≡◌, ◌+◌, List, [], ◌∷◌, ◌++◌, length, sym, ap, ◌∙◌, subst, arith}
use Rattle.actors.specs.declared.outcome.ToldEnd.{ToldEnd}
use Rattle.actors.specs.Shares.{frames_of, frame_at, worker_of_frame}
use Rattle.actors.specs.Accounts.{lists_of, fate_of, counts_of, counted, sent_of, sent_by, ends_of, record_end, AreRunsOfShares, AreFatesFrom, AreNext}
use Rattle.actors.proofs.shared.TakingOut.{counts_next, sent_next, ends_next}
use Rattle.actors.proofs.account.account.Goals as goal

pub records-preserved : goal.records-preserved
records-preserved c =
    let i = c.records.invariant in
    let records = c.args.capture.now.records.items in
    let frames = frames_of records in
    let workers = length c.args.runs.items in
    let runs = lists_of c.args.runs.items in
    let number = c.records.number in
    let call = c.next_fate-fate.ensures in
    let now = lists_of c.next_fate-fate.new.runs.items in
    let fate = c.next_fate-fate.result in
    let worker = c.worker_at-worker.result in
    let is : fate ≡ fate_of frames workers runs number =
    subst (λ n. fate ≡ fate_of frames n (lists_of c.records.runs.items) number) i.count call.fate ∙ i.left number (omega arith) in
    record {
      count = call.count ∙ i.count;
      are_runs = subst (λ n. AreRunsOfShares frames n (length records) now) i.count call.runs;
      left = λ later past. subst (λ n. AreFatesFrom (number + 1) frames n (lists_of c.records.runs.items) now) i.count call.later later past
          ∙ i.left later (omega (arith, past));
      next = subst (λ n. AreNext frames n (number + 1) c.next_fate-fate.new.next.items) i.count call.next;
      counts = c.count.ensures.counted ∙ ap (λ counts. counted counts fate) i.counts ∙ ap (λ f. counted (counts_of frames workers runs number) f) is
          ∙ sym (counts_next frames workers runs number);
      frames = c.count.ensures.one_more ∙ ap (λ n. n + 1) i.frames;
      ends = c.in_ok-push.ensures.items ∙ ap (λ (list : List ToldEnd). list ++ c.record_end.result ∷ []) i.ends
          ∙ ap (λ (told : ToldEnd). ends_of frames workers runs number ++ told ∷ []) (c.record_end.ensures ∙ ap (record_end worker) is
          ∙ ap (λ n. record_end n (fate_of frames workers runs number)) (c.worker_at-worker.ensures.worker
          ∙ ap (worker_of_frame (frame_at frames number)) i.workers))
          ∙ sym (ends_next frames workers runs number);
      workers = i.workers;
      sent = c.in_ok-send.ensures ∙ ap (λ list. list ++ sent_by fate) i.sent ∙ ap (λ f. sent_of frames workers runs number ++ sent_by f) is
          ∙ sym (sent_next frames workers runs number);
    }
