use Rattle.control.specs.MapUpdates.{map_update}
use Rattle.control.proofs.Updates.{in_array}
use Rattle.control.proofs.sending.make_in_array.Goals as goal

pub returns-in-Ok-clause-gives : goal.returns-in-Ok-clause-gives
returns-in-Ok-clause-gives g c =
    let zero = g.met.U.UpdatePort.arrays_answer c.args.port.now c.make.new.port (map_update c.args.update) c.in-Ok._answer (in_array _ c.args.size c.args.update c.requires.serves c.requires.array) c.in-Ok.ensures.gives in
    rw (← zero) c.in-Ok.ensures.gives
