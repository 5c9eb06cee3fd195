use Rattle.shard_core.proofs.RoomLemmas as lemmas
use Rattle.shard_core.proofs.laws.leave_has_room.Goals as goal

pub returns : goal.returns
returns c = lemmas.leave_has_room
