use Rattle.std.proofs.Common.{◌∙◌, length-set}
use Rattle.rx_queues.specs.Passes.{purpose_of}
use Rattle.rx_queues.proofs.PassLemmas.{put_pass_there, put_pass_known, put_pass_as, put_passes_stay, puts_unchanged, take_pass_there, take_pass_known}
use Rattle.rx_queues.proofs.passes.Queues.settle.Goals as goal

pub join-requires-clause-put : goal.join-requires-clause-put
join-requires-clause-put c =
    let queue = c.index-queue.result.now in
    let mine = c.index_mut-mine.result.now in
    put_pass_known (purpose_of c.args.self.now c.args.take.queue) queue mine (put_pass_there (purpose_of c.args.self.now) _ _ _ queue mine
    c.requires.put.0 c.requires.put.1 c.requires.take.0 c.index-queue.ensures c.index_mut-mine.ensures.value)

pub join-requires-clause-take : goal.join-requires-clause-take
join-requires-clause-take c =
    let queue = c.index-queue.result.now in
    take_pass_known (purpose_of c.args.self.now c.args.take.queue) queue c.args.take.pass
    (take_pass_there (purpose_of c.args.self.now) _ _ queue c.args.take.pass c.requires.take.1 c.requires.take.0 c.index-queue.ensures)

pub returns-clause-pass : goal.returns-clause-pass
returns-clause-pass c =
    let queue = c.index-queue.result.now in
    let mine = c.index_mut-mine.result.now in
    let right = put_pass_there (purpose_of c.args.self.now) _ _ _ queue mine c.requires.put.0 c.requires.put.1 c.requires.take.0
    c.index-queue.ensures c.index_mut-mine.ensures.value in
    let now = put_pass_as (purpose_of c.args.self.now c.args.take.queue) queue mine c.join.new.put right c.join.ensures.pass.0 in (
      (
        length-set _ _ _ ∙ c.requires.put.0,
        put_passes_stay (purpose_of c.args.self.now) _ _ _ queue c.join.new.put c.requires.put.1 c.requires.take.0
            c.index-queue.ensures now,
      ),
      puts_unchanged c.args.put.now.passes.items c.args.take.queue mine c.join.new.put c.index_mut-mine.ensures.value c.join.ensures.pass.1,
    )
