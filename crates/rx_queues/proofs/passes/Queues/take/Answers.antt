use Rattle.std.proofs.Common.{refl, subst}
use Rattle.std.specs.Prelude.{IfSome}
use Rattle.rx_queues.specs.Fifo.{Fits}
use Rattle.rx_queues.specs.Passes.{purpose_of}
use Rattle.rx_queues.proofs.PassLemmas.{take_pass_there, take_pass_known, take_pass_as, take_pass_stays}
use Rattle.rx_queues.proofs.passes.Queues.take.Goals as goal

pub pop-requires : goal.pop-requires
pop-requires g c =
    let queue = c.index-queue.result.now in
    let mine = c.args.pass.now.pass in
    take_pass_known (purpose_of c.args.self.now c.args.pass.now.queue) queue mine
    (take_pass_there (purpose_of c.args.self.now) _ _ queue mine c.requires.1 c.requires.0 c.index-queue.ensures)

pub returns-clause-pass : goal.returns-clause-pass
returns-clause-pass g c =
    let queue = c.index-queue.result.now in
    let mine = c.args.pass.now.pass in
    let right = take_pass_there (purpose_of c.args.self.now) _ _ queue mine c.requires.1 c.requires.0 c.index-queue.ensures in
    let now = take_pass_as (purpose_of c.args.self.now c.args.pass.now.queue) queue mine c.pop.new.pass right c.pop.ensures.pass in
    ((c.requires.0, take_pass_stays (purpose_of c.args.self.now) _ _ queue c.pop.new.pass now c.requires.0 c.index-queue.ensures), refl)

pub returns-clause-fits : goal.returns-clause-fits
returns-clause-fits g c =
    let right = take_pass_there (purpose_of c.args.self.now) _ _ c.index-queue.result.now c.args.pass.now.pass c.requires.1 c.requires.0 c.index-queue.ensures in
    subst (λ purpose. IfSome c.pop.result (Fits purpose)) right.2 c.pop.ensures.fits
