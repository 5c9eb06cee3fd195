use Rattle.guarantees.proofs.QuietShards.{quiet_shards}
use Rattle.guarantees.proofs.readers.quiet_shards_are_as_opened.Goals as goal

pub returns : goal.returns
returns c = quiet_shards
