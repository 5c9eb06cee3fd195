use Rattle.guarantees.proofs.ReaderTraces.{runs_the_same}
use Rattle.guarantees.proofs.readers.readers_run_the_same.Goals as goal

pub returns : goal.returns
returns c =
    let verified = c.args.verified.now in
    runs_the_same verified.version verified.maps verified.code verified.states c.encodable.ensures c.image.ensures.accepted c.requires.reads
