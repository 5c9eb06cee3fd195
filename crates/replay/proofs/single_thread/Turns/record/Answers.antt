use Rattle.std.proofs.Common.{◌<◌, ◌++◌, ◌∷◌, [], length, refl, ◌∙◌, ap}
use Rattle.semantics.proofs.shared.EachLemmas.{got_there}
use Rattle.actors.specs.declared.outcome.ToldEnd.{ToldEnd}
use Rattle.actors.specs.Accounts.{record_end}
use Rattle.actors.specs.Shares.{worker_of_frame}
use Rattle.replay.proofs.single_thread.Turns.record.Goals as goal

pub returns-clause-turn : goal.returns-clause-turn
returns-clause-turn c = λ records number there.
    let piece = c.args.piece.now.records.items in
    let below : c.args.place < length piece = c.requires.place in
    record {
      captured = c.index-sent.result.now;
      known = there ∙ got_there piece c.args.place c.index-sent.result.now below c.index-sent.ensures;
      end = c.in_ok-end.end;
      handled = c.in_ok-end.ensures.handled;
      maps = c.in_ok-end.ensures.maps;
      options = c.in_ok-end.ensures.options;
      controller = refl;
      noted = refl;
      counts = c.count.ensures.counted;
      sent = c.in_ok-send.ensures;
      ends = c.in_ok-push.ensures.items ∙ ap (λ (one : ToldEnd). c.args.self.now.ends.items ++ one ∷ [])
          (c.record_end.ensures
          ∙ ap (λ worker. record_end worker c.in_ok-end.end)
          (c.worker_of-worker.ensures.worker ∙ ap (worker_of_frame c.deref.result.now) c.workers.ensures.workers
          ∙ ap (λ bytes. worker_of_frame bytes c.args.self.now.all.options.workers) c.deref.ensures.value));
    }

pub returns-clause-same : goal.returns-clause-same
returns-clause-same c = record { maps = c.in_ok-end.ensures.maps; options = c.in_ok-end.ensures.options; size = refl }
