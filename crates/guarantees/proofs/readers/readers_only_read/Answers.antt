use Rattle.guarantees.proofs.ReadCalls.{reads_only}
use Rattle.guarantees.proofs.readers.readers_only_read.Goals as goal

pub returns : goal.returns
returns c =
    let verified = c.args.verified.now in
    reads_only verified.version verified.maps verified.code verified.states c.encodable.ensures c.image.ensures.accepted c.requires.reads
