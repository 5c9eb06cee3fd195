use Rattle.std.proofs.Common.{sym}
use Rattle.shard_core.proofs.contents.make_room.Goals as goal

pub retire-requires-clause-once : goal.retire-requires-clause-once
retire-requires-clause-once c = (c.requires.victim c.in-Some.cell (sym c.in-Some.ensures.cell)).once

pub retire-requires-clause-room : goal.retire-requires-clause-room
retire-requires-clause-room c = (c.requires.victim c.in-Some.cell (sym c.in-Some.ensures.cell)).room

pub retire-requires-clause-latest : goal.retire-requires-clause-latest
retire-requires-clause-latest c = rw c.stamp.ensures.stamp ((c.requires.victim c.in-Some.cell (sym c.in-Some.ensures.cell)).latest)
