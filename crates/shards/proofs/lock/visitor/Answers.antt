use Rattle.shards.proofs.Moves.{comes}
use Rattle.shards.proofs.lock.visitor.Goals as goal

pub load_new_seat-requires : goal.load_new_seat-requires
load_new_seat-requires c = (c.requires.lock.0, comes _ _)
