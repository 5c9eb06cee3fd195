use Rattle.std.proofs.Common.{sym, ◌∙◌, ap}
use Rattle.shard_core.specs.KeyTables.{victim_cell}
use Rattle.shard_core.proofs.contents.write_value.Goals as goal

pub make_room-requires-clause-victim : goal.make_room-requires-clause-victim
make_room-requires-clause-victim c cell found =
    (c.requires.room (sym c.touch.ensures.cell ∙ c.in-None.is)).victim cell (ap victim_cell (sym (c.touch.ensures.unchanged c.in-None.is)) ∙ found)
