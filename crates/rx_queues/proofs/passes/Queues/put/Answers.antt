use Rattle.std.proofs.Common.{◌∙◌, sym, ap, subst, arith, length-set}
use Rattle.rx_queues.specs.Fifo.{Fits}
use Rattle.rx_queues.specs.Passes.{purpose_of}
use Rattle.rx_queues.proofs.PassLemmas.{put_pass_there, put_pass_known, put_pass_as, put_passes_stay, on_put, on_back, on_full}
use Rattle.rx_queues.proofs.passes.Queues.put.Goals as goal

pub push-requires-clause-pass : goal.push-requires-clause-pass
push-requires-clause-pass g c =
    let queue = c.index-queue.result.now in
    let mine = c.index_mut-mine.result.now in
    put_pass_known (purpose_of c.args.self.now c.place-place.result) queue mine (put_pass_there (purpose_of c.args.self.now) _ _ _ queue mine
    c.requires.pass.0 c.requires.pass.1 c.place-place.ensures.within c.index-queue.ensures c.index_mut-mine.ensures.value)

pub push-requires-clause-fits : goal.push-requires-clause-fits
push-requires-clause-fits g c =
    let right = put_pass_there (purpose_of c.args.self.now) _ _ _ c.index-queue.result.now c.index_mut-mine.result.now c.requires.pass.0
    c.requires.pass.1 c.place-place.ensures.within c.index-queue.ensures c.index_mut-mine.ensures.value in
    subst (λ purpose. Fits purpose c.args.job) (ap (purpose_of c.args.self.now) (sym c.place-place.ensures.place) ∙ sym right.2) c.requires.fits

pub returns-clause-pass : goal.returns-clause-pass
returns-clause-pass g c =
    let queue = c.index-queue.result.now in
    let mine = c.index_mut-mine.result.now in
    let right = put_pass_there (purpose_of c.args.self.now) _ _ _ queue mine c.requires.pass.0 c.requires.pass.1 c.place-place.ensures.within
    c.index-queue.ensures c.index_mut-mine.ensures.value in
    let now = put_pass_as (purpose_of c.args.self.now c.place-place.result) queue mine c.push.new.pass right c.push.ensures.pass in (
      length-set _ _ _ ∙ c.requires.pass.0,
      put_passes_stay (purpose_of c.args.self.now) _ _ _ queue c.push.new.pass c.requires.pass.1 c.place-place.ensures.within c.index-queue.ensures now,
    )

pub returns-clause-put : goal.returns-clause-put
returns-clause-put g c =
    on_put c.push.result c.args.pass.now.passes.items _ _ c.index_mut-mine.result.now c.push.new.pass c.args.job c.place-place.ensures.place
    c.index_mut-mine.ensures.value c.push.ensures.put

pub returns-clause-back : goal.returns-clause-back
returns-clause-back g c =
    on_back c.push.result c.args.pass.now.passes.items c.place-place.result c.index_mut-mine.result.now c.push.new.pass c.args.job
    c.index_mut-mine.ensures.value c.push.ensures.back

pub returns-clause-full : goal.returns-clause-full
returns-clause-full g c =
    let as_many = c.requires.pass.0 in
    let within = c.place-place.ensures.within in
    on_full c.push.result c.args.pass.now.passes.items c.place-place.result _ c.index_mut-mine.result.now c.place-place.ensures.place
    (omega arith) c.index_mut-mine.ensures.value c.push.ensures.full
